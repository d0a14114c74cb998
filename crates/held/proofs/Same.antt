-- The search in a list of row records answers as the search in a table of numbers does, refusal 13 included: `same`, for any table and the rows that
-- it spells, and `same_rows`, for any rows and the table of their numbers.
use mathlib.Core.Path.{◌≡◌, refl, sym, ap, ◌∙◌}
use Prim.Native.Nat.{ℕ, zero, suc, ◌+◌, ◌/◌, ◌≤◌, ◌<◌}
use mathlib.Core.Bool.{Bool, true, false}
use mathlib.Core.List.{List}
use native.Mathlib.Omega.{arith}
use borrow.Author.Tests.{ltb-false}
use lib.Dec.{ltb, eqb}
use lib.ListN.{length, get_or}
use Rattle.octets.specs.Paper.{Paper}
use Rattle.octets.specs.Refusals.{not_there}
use Rattle.block.specs.declared.Row.{Row}
use Rattle.runtime.specs.Addresses.{matches, null, found, seek, lookup_as}
use Rattle.block.specs.Rows.{per_row, Column, row_table, cell, none, row_spelt, spelt}
use Rattle.block.proofs.Tables.{rows-many, row_at, spells}
use Rattle.held.specs.Held.{is_row, lookup_rows}

-- a search is the same by two tests that agree on the rows that are searched
seek-same : (p q : ℕ → Bool) (n row : ℕ) → ((i : ℕ) → row ≤ i → i < row + n → p i ≡ q i) → seek p n row ≡ seek q n row
unfolding seek
seek-same p q zero row h = refl
seek-same p q (suc n) row h =
    let e : p row ≡ q row = h row (omega arith) (omega arith) in
    let r : seek p n (row + 1) ≡ seek q n (row + 1) = seek-same p q n (row + 1) (λ i l u. h i (omega arith) (omega arith)) in
    ap (λ (b : Bool). elim b as (λ (c : Bool). Paper) [ true ↦ found row | false ↦ seek p n (row + 1) ]) e
    ∙ ap (λ (x : Paper). elim (q row) as (λ (c : Bool). Paper) [ true ↦ found row | false ↦ x ]) r

module _ (t : List ℕ) (n address : ℕ) where
  many : length (spelt t) ≡ length t / per_row
  unfolding spelt
  many = rows-many t (length t / per_row) 0

  test : (i : ℕ) → i < length t / per_row → is_row address (get_or (spelt t) i none) ≡ matches address (cell t i Column.code) (cell t i Column.address)
  unfolding spelt
  test i h =
      let e : 0 + i ≡ i = omega arith in
      ap (is_row address) (row_at t (length t / per_row) 0 i h ∙ ap (row_spelt t) e)

  pub same : lookup_rows (spelt t) n address ≡ lookup_as t n address
  unfolding lookup_as
  same = ap (λ (m : ℕ). long (ltb m n)) many ∙ go (ltb (length t / per_row) n) refl
    where
      by : (ℕ → Bool) → Paper
      by p = elim (eqb address 0) as (λ (b : Bool). Paper) [ true ↦ null | false ↦ seek p n 0 ]

      long : Bool → Paper
      long b = elim b as (λ (c : Bool). Paper) [ true ↦ not_there | false ↦ by (λ i. is_row address (get_or (spelt t) i none)) ]

      go : (b : Bool) → ltb (length t / per_row) n ≡ b → long b ≡ (elim b as (λ (c : Bool). Paper) [ true ↦ not_there | false ↦ by (λ i. matches address (cell t i Column.code) (cell t i Column.address)) ])
      go true e = refl
      go false e =
          let l : n ≤ length t / per_row = ltb-false _ _ e in
          ap (λ (x : Paper). elim (eqb address 0) as (λ (b : Bool). Paper) [ true ↦ null | false ↦ x ])
          (seek-same (λ i. is_row address (get_or (spelt t) i none)) (λ i. matches address (cell t i Column.code) (cell t i Column.address)) n 0 (λ i _ u. test i (omega arith)))

pub same_rows : (rs : List Row) (n address : ℕ) → lookup_rows rs n address ≡ lookup_as (row_table rs) n address
same_rows rs n address = ap (λ (l : List Row). lookup_rows l n address) (sym (spells rs)) ∙ same (row_table rs) n address
