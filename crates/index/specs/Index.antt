-- Index: an index beside the row table, chains of row numbers plus 1 by address modulo a bucket count, and the search through it.
use Rattle.std.specs.Prelude.{ℕ, zero, suc, ◌+◌, ◌-◌, ◌/◌, ◌%◌, max, Bool, true, false, ◌||◌, List, [], ◌∷◌, leb, ltb, eqb, length, get_or, Result, Ok, Err}
use Rattle.octets.specs.Paper.{Paper}
use Rattle.octets.specs.Paper.Paper.{accepts}
use Rattle.octets.specs.Refusals.{not_there, index_too_short, paper_refusal}
use Rattle.octets.specs.Tables.{written}
use Rattle.block.specs.Rows.{Column, per_row, cell}
use Rattle.runtime.specs.Addresses.{matches, null, found, missing, pointer}
use Rattle.index.specs.declared.index.IndexError.{IndexError}
use Rattle.runtime.specs.declared.runtime.Pointer.{Pointer}

-- the first of n rows from `row` on at which a test holds, as its number plus 1; 0 where there is none
unfoldable pub first_at : (ℕ → Bool) → (n row : ℕ) → ℕ
first_at p zero row = 0
first_at p (suc n) row = elim (p row) [ true ↦ row + 1 | false ↦ first_at p n (row + 1) ]

-- a row's bucket: its address modulo the bucket count
abbrev pub bucket_of : List ℕ → (buckets row : ℕ) → ℕ
bucket_of t buckets row = cell t row Column.address % buckets

abbrev pub is_in : List ℕ → (buckets bucket row : ℕ) → Bool
is_in t buckets bucket row = eqb (bucket_of t buckets row) bucket

-- The head of a bucket is the first of its rows, the link of a row the next one of its own bucket. All rows are chained, whatever their kind.
abbrev pub head_of : List ℕ → (rows buckets bucket : ℕ) → ℕ
head_of t rows buckets bucket = first_at (is_in t buckets bucket) rows 0

abbrev pub link_of : List ℕ → (rows buckets row : ℕ) → ℕ
link_of t rows buckets row = first_at (is_in t buckets (bucket_of t buckets row)) (rows - (row + 1)) (row + 1)

-- the numbers that a rule gives to n places from `at` on
unfoldable pub numbers_from : (ℕ → ℕ) → (n at : ℕ) → List ℕ
numbers_from f zero at = []
numbers_from f (suc n) at = f at ∷ numbers_from f n (at + 1)

unfoldable pub heads_of : List ℕ → (rows buckets : ℕ) → List ℕ
unfolding numbers_from
heads_of t rows buckets = numbers_from (head_of t rows buckets) buckets 0

unfoldable pub links_of : List ℕ → (rows buckets : ℕ) → List ℕ
unfolding numbers_from
links_of t rows buckets = numbers_from (link_of t rows buckets) rows 0

-- What both calls ask first: 13 for the row count, then 14, no bucket or index tables too short, with the numbers needed (buckets, at least 1, and rows).
abbrev pub is_short : (rows buckets heads links : ℕ) → Bool
is_short rows buckets heads links = eqb buckets 0 || (ltb heads buckets || ltb links rows)

abbrev pub where_there : (has rows buckets heads links : ℕ) → Paper → Paper
where_there has rows buckets heads links answer =
    elim (ltb has rows) [ true ↦ not_there | false ↦ elim (is_short rows buckets heads links) [ true ↦ index_too_short (max 1 buckets) rows | false ↦ answer ] ]

-- What building answers, and what the two tables hold afterwards.
abbrev pub built : Paper
built = accepts 0 []

abbrev pub indexed_as : List ℕ → (rows buckets : ℕ) → (heads links : List ℕ) → Paper
indexed_as t rows buckets heads links = where_there (length t / per_row) rows buckets (length heads) (length links) built

abbrev pub heads_after : List ℕ → (rows buckets : ℕ) → (heads links : List ℕ) → List ℕ
heads_after t rows buckets heads links = written (indexed_as t rows buckets heads links) (heads_of t rows buckets) heads

abbrev pub links_after : List ℕ → (rows buckets : ℕ) → (heads links : List ℕ) → List ℕ
links_after t rows buckets heads links = written (indexed_as t rows buckets heads links) (links_of t rows buckets) links

-- the papers of the answers: of an error, and of an answer by that of its value
abbrev pub paper_index_error : IndexError → Paper
paper_index_error (IndexError.Refusal r) = paper_refusal r
paper_index_error (IndexError.TooShort buckets rows) = index_too_short buckets rows

abbrev pub paper_index : {A : Type 0} → (A → Paper) → Result A IndexError → Paper
paper_index paper (Ok a) = paper a
paper_index paper (Err e) = paper_index_error e

abbrev pub paper_indexed : Result (Unit {0}) IndexError → Paper
paper_indexed r = paper_index (λ u. built) r

-- The search. A match is what the plain search takes at that row.
abbrev pub row_matches : List ℕ → (address row : ℕ) → Bool
row_matches t address row = matches address (cell t row Column.code) (cell t row Column.address)

-- A chain, over any numbers whatever: `number` is followed, and `last` was before it, 0 for none. 0 ends the chain. Any other number has to lie in the row count and
-- to rise over the last one, else 13; then its row is asked whether it matches, and if not, the row's link is followed. At most n numbers are.
unfoldable pub chain : (ℕ → Bool) → List ℕ → (rows n last number : ℕ) → Paper
chain p links rows zero last number = not_there
chain p links rows (suc n) last number =
    elim (eqb number 0) [
      | true ↦ missing
      | false ↦ elim (ltb rows number || leb number last) [
        | true ↦ not_there
        | false ↦ elim (p (number - 1)) [ true ↦ found (number - 1) | false ↦ chain p links rows n number (get_or links (number - 1) 0) ]
      ]
    ]

-- From a head on. Each number that is followed rises and lies in the row count, so there are never more than rows and one, and `zero` is never met
-- (proofs/Chains.antt).
unfoldable pub chain_from : List ℕ → (rows : ℕ) → (links : List ℕ) → (address head : ℕ) → Paper
unfolding chain
chain_from t rows links address head = chain (row_matches t address) links rows (suc rows) 0 head

-- address 0: Null; otherwise the chain of the address's bucket
unfoldable pub found_as : List ℕ → (rows buckets : ℕ) → (heads links : List ℕ) → (address : ℕ) → Paper
unfolding chain_from
found_as t rows buckets heads links address =
    where_there (length t / per_row) rows buckets (length heads) (length links)
    (elim (eqb address 0) [ true ↦ null | false ↦ chain_from t rows links address (get_or heads (address % buckets) 0) ])

abbrev pub paper_found : Result Pointer IndexError → Paper
paper_found r = paper_index pointer r
