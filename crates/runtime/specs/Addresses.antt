-- Addresses: the search for an address in the row table, and a block's code.
use Rattle.std.specs.Prelude.{ℕ, zero, suc, ◌+◌, ◌/◌, ◌%◌, ◌^◌, Bool, true, false, ◌&&◌, List, [], ◌∷◌, ltb, eqb, length, Result, Option, Some, None}
use Rattle.octets.specs.Paper.{Paper}
use Rattle.octets.specs.Paper.Paper.{accepts}
use Rattle.octets.specs.Refusals.{not_there, paper_answer}
use Rattle.block.specs.declared.Kind.{Kind}
use Rattle.runtime.specs.declared.runtime.Pointer.{Pointer}
use Rattle.octets.specs.declared.Refusal.{Refusal}
use Rattle.block.specs.Kinds.{kind_of, about}
use Rattle.block.specs.Rows.{Column, per_row, cell}

-- Principal and Subsidiary (DATA) rows are found by their address.
abbrev pub is_found : Kind → Bool
is_found k = (about k).found

-- whether a row with this code and this address answers the search
abbrev pub matches : ℕ → ℕ → ℕ → Bool
matches wanted code address = is_found (kind_of code) && eqb address wanted

-- What the search answers: 0 Null, 1 found, with the row's number, 2 Missing.
abbrev pub null : Paper
null = accepts 0 []

abbrev pub found : ℕ → Paper
found row = accepts 1 (row ∷ [])

abbrev pub missing : Paper
missing = accepts 2 []

-- the first of n rows from `row` on at which a test holds
unfoldable pub seek : (ℕ → Bool) → (n row : ℕ) → Paper
seek p zero row = missing
seek p (suc n) row = elim (p row) [ true ↦ found row | false ↦ seek p n (row + 1) ]

-- 13 first, if the table has fewer rows; address 0: Null; otherwise the first row, else Missing
unfoldable pub lookup_as : List ℕ → ℕ → ℕ → Paper
unfolding seek
lookup_as t rows address =
    elim (ltb (length t / per_row) rows) [
      | true ↦ not_there
      | false ↦ elim (eqb address 0) [ true ↦ null | false ↦ seek (λ row. matches address (cell t row Column.code) (cell t row Column.address)) rows 0 ]
    ]

abbrev pub pointer : Pointer → Paper
pointer Pointer.Null = null
pointer (Pointer.Block row) = found row
pointer Pointer.Missing = missing

abbrev pub paper_pointer : Result Pointer Refusal → Paper
paper_pointer r = paper_answer pointer r

-- The code asked of a block is its 4 bytes (answer 0); of a DATA block, none (1), and none of a number that is no block code.
abbrev pub four_bytes : ℕ → List ℕ
four_bytes n = n / 2 ^ 24 % 256 ∷ n / 2 ^ 16 % 256 ∷ n / 2 ^ 8 % 256 ∷ n % 256 ∷ []

abbrev pub has_code : Kind → Bool
has_code k = (about k).coded

unfoldable pub code_as : ℕ → Paper
code_as n = elim (has_code (kind_of n)) [ true ↦ accepts 0 (four_bytes n) | false ↦ accepts 1 [] ]

abbrev pub paper_code : Option (List ℕ) → Paper
paper_code (Some bs) = accepts 0 bs
paper_code None = accepts 1 []
