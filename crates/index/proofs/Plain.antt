-- Through an index that was built from these rows the search answers as the plain one does; and equal rows give an equal index.
use Prim.Native.Nat.{ℕ, zero, suc, ◌+◌, ◌-◌, ◌/◌, ◌%◌, ◌≤◌, ◌<◌}
use mathlib.Core.Bool.{Bool, true, false, ◌&&◌}
use mathlib.Core.List.{List}
use mathlib.Core.Path.{◌≡◌, refl, sym, ◌∙◌, ap}
use native.Mathlib.Nat.{mod-lt}
use native.Mathlib.Omega.{arith}
use borrow.Author.Tests.{eqb-true, eqb-false}
use lib.Dec.{ltb, eqb}
use lib.ListN.{length, get_or, take}
use lib.Seq.{get_or-take}
use Rattle.octets.specs.Paper.{Paper}
use Rattle.octets.specs.Refusals.{not_there}
use Rattle.octets.proofs.Tests.{failed}
use Rattle.block.specs.Rows.{Column, per_row, cell}
use Rattle.runtime.specs.Addresses.{is_found, null, found, seek, lookup_as}
use Rattle.block.specs.Kinds.{kind_of}
use Rattle.index.specs.Index.{first_at, bucket_of, is_in, head_of, link_of, heads_of, links_of, row_matches, chain, chain_from, found_as}
use Rattle.index.proofs.Firsts.{first-none, first-here, first_on, first-same, number_at, numbers-same}
use Rattle.index.proofs.Chains.{chain-ends, chain-found, chain-on}
use Rattle.index.proofs.Room.{long-enough}

-- a row outside of the address's bucket does not match
outside : (t : List ℕ) (buckets address row : ℕ) → is_in t buckets (address % buckets) row ≡ false → row_matches t address row ≡ false
outside t buckets address row e = both (is_found (kind_of (cell t row Column.code))) (eqb (cell t row Column.address) address) refl
  where
    both : (a b : Bool) → eqb (cell t row Column.address) address ≡ b → (a && b) ≡ false
    both true true q = absurd (eqb-false _ _ e (ap (λ (n : ℕ). n % buckets) (eqb-true _ _ q)))
    both true false q = refl
    both false b q = refl

-- a chain whose links are those of the rows, from the first row of the address's bucket that is not before `row`
module _ (t : List ℕ) (rows buckets : ℕ) (links : List ℕ) (address : ℕ) (built : (i : ℕ) → i < rows → get_or links i 0 ≡ link_of t rows buckets i) where
  abbrev p : ℕ → Bool
  p = row_matches t address

  abbrev own : ℕ → Bool
  own = is_in t buckets (address % buckets)

  -- the next number of the chain after a row of the bucket
  next-number : (n row : ℕ) → row + suc n ≡ rows → own row ≡ true → get_or links row 0 ≡ first_at own n (row + 1)
  next-number n row k e =
      let z : rows - (row + 1) ≡ n = omega arith in
      built row (omega arith) ∙ ap (λ (b : ℕ). first_at (is_in t buckets b) (rows - (row + 1)) (row + 1)) (eqb-true _ _ e) ∙ ap (λ (m : ℕ). first_at own m (row + 1)) z

  -- a turn is left
  turn : (last turns : ℕ) → last ≤ rows → rows < last + turns → (m : ℕ) × (turns ≡ suc m)
  turn last zero h g = absurd (omega arith)
  turn last (suc m) h g = (m, refl)

  as_seek : (n row last turns : ℕ) → row + n ≡ rows → last ≤ row → rows < last + turns → chain p links rows turns last (first_at own n row) ≡ seek p n row
  unfolding seek
  as_seek zero row last turns k h g =
      let w = turn last turns (omega arith) g in
      ap (λ (m : ℕ). chain p links rows m last (first_at own 0 row)) w.1 ∙ chain-ends p links rows w.0 last (first_at own 0 row) (first-none own row)
  as_seek (suc n) row last turns k h g =
      let w = turn last turns (omega arith) g in
      ap (λ (m : ℕ). chain p links rows m last (first_at own (suc n) row)) w.1 ∙ go w.0 (rw w.1 at g) (own row) refl (λ last turns e i. as_seek n (row + 1) last turns (omega arith) e i)
    where
      On : Type 0
      On = (last turns : ℕ) → last ≤ row + 1 → rows < last + turns → chain p links rows turns last (first_at own n (row + 1)) ≡ seek p n (row + 1)

      here : (m : ℕ) → rows < last + suc m → own row ≡ true → On → (b : Bool) → p row ≡ b
          → chain p links rows (suc m) last (row + 1) ≡ (elim b as (λ (c : Bool). Paper) [ true ↦ found row | false ↦ seek p n (row + 1) ])
      here m f e on true q =
          let z : row ≡ row + 1 - 1 = omega arith in
          chain-found p links rows m last (row + 1) (λ u. omega arith) (omega arith) (omega arith) (ap p (sym z) ∙ q) ∙ ap found (sym z)
      here m f e on false q =
          let z : row ≡ row + 1 - 1 = omega arith in
          chain-on p links rows m last (row + 1) (λ u. omega arith) (omega arith) (omega arith) (ap p (sym z) ∙ q)
          ∙ ap (λ (i : ℕ). chain p links rows m (row + 1) (get_or links i 0)) (sym z) ∙ ap (chain p links rows m (row + 1)) (next-number n row k e)
          ∙ on (row + 1) m (omega arith) (omega arith)

      go : (m : ℕ) → rows < last + suc m → (b : Bool) → own row ≡ b → On → chain p links rows (suc m) last (first_at own (suc n) row) ≡ seek p (suc n) row
      go m f true e on = ap (chain p links rows (suc m) last) (first-here own n row e) ∙ here m f e on (p row) refl
      go m f false e on =
          ap (chain p links rows (suc m) last) (first_on own n row e) ∙ on last (suc m) (omega arith) f
          ∙ sym (failed (found row) (seek p n (row + 1)) (outside t buckets address row e))

  pub chain_as_seek : chain_from t rows links address (head_of t rows buckets (address % buckets)) ≡ seek p rows 0
  unfolding chain_from
  chain_as_seek = as_seek rows 0 0 (suc rows) (omega arith) (omega arith) (omega arith)

-- the search
module _ (t : List ℕ) (rows buckets : ℕ) (heads links : List ℕ) where
  abbrev seen : ℕ
  seen = length t / per_row

  pub as_plain : 0 < buckets → buckets ≤ length heads → rows ≤ length links → take buckets heads ≡ heads_of t rows buckets → take rows links ≡ links_of t rows buckets
      → (address : ℕ) → found_as t rows buckets heads links address ≡ lookup_as t rows address
  unfolding found_as lookup_as heads_of links_of
  as_plain z h l e g address =
      ap (λ (x : Paper). elim (ltb seen rows) as (λ (c : Bool). Paper) [ true ↦ not_there | false ↦ x ])
      (failed _ _ (long-enough rows buckets (length heads) (length links) z h l) ∙ ap (λ (x : Paper). elim (eqb address 0) as (λ (c : Bool). Paper) [ true ↦ null | false ↦ x ]) chains)
    where
      bucket : address % buckets < buckets
      bucket = mod-lt address z

      head : get_or heads (address % buckets) 0 ≡ head_of t rows buckets (address % buckets)
      head = sym (get_or-take buckets heads (address % buckets) 0 bucket) ∙ ap (λ (x : List ℕ). get_or x (address % buckets) 0) e ∙ number_at (head_of t rows buckets) buckets 0 (address % buckets) bucket ∙ ap (head_of t rows buckets) (omega arith)

      link : (i : ℕ) → i < rows → get_or links i 0 ≡ link_of t rows buckets i
      link i k = sym (get_or-take rows links i 0 k) ∙ ap (λ (x : List ℕ). get_or x i 0) g ∙ number_at (link_of t rows buckets) rows 0 i k ∙ ap (link_of t rows buckets) (omega arith)

      chains : chain_from t rows links address (get_or heads (address % buckets) 0) ≡ seek (row_matches t address) rows 0
      chains = ap (chain_from t rows links address) head ∙ chain_as_seek t rows buckets links address link

-- Equal rows and bucket count give an equal index: what counts are the addresses.
module _ (t u : List ℕ) (rows buckets : ℕ) (same : (i : ℕ) → i < rows → cell u i Column.address ≡ cell t i Column.address) where
  bucket_same : (b i : ℕ) → i < rows → is_in u buckets b i ≡ is_in t buckets b i
  bucket_same b i h = ap (λ (a : ℕ). eqb (a % buckets) b) (same i h)

  pub heads_same : heads_of u rows buckets ≡ heads_of t rows buckets
  unfolding heads_of
  heads_same = numbers-same (head_of u rows buckets) (head_of t rows buckets) buckets 0 (λ b h k. first-same (is_in u buckets b) (is_in t buckets b) rows 0 (λ i e g. bucket_same b i (omega arith)))

  pub links-same : links_of u rows buckets ≡ links_of t rows buckets
  unfolding links_of
  links-same = numbers-same (link_of u rows buckets) (link_of t rows buckets) rows 0 (λ i h k.
      ap (λ (a : ℕ). first_at (is_in u buckets (a % buckets)) (rows - (i + 1)) (i + 1)) (same i (omega arith))
      ∙ first-same (is_in u buckets (bucket_of t buckets i)) (is_in t buckets (bucket_of t buckets i)) (rows - (i + 1)) (i + 1) (λ j e g. bucket_same (bucket_of t buckets i) j (omega arith)))
