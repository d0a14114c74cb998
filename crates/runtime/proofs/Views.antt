-- Laws of views and of the address search, from what the code asked.
use Prim.Native.Nat.{ℕ, suc, ◌+◌, ◌-◌, ◌/◌, ◌≤◌, ◌<◌}
use mathlib.Core.Bool.{Bool, true, false, ◌&&◌}
use mathlib.Core.List.{List, []}
use mathlib.Core.Path.{◌≡◌, refl, sym, ◌∙◌, ap}
use native.Mathlib.Omega.{arith}
use borrow.Author.Tests.{lt-ltb, le-ltb, eq-eqb, ne_eqb, le-leb}
use lib.ListN.{length}
use Rattle.octets.specs.declared.Fault.{Fault}
use Rattle.octets.specs.declared.Fault.TheVariants.{Cut}
use Rattle.octets.specs.Cursor.{part_of}
use Rattle.octets.specs.Paper.{Paper}
use Rattle.octets.specs.Paper.Paper.{accepts}
use Rattle.octets.specs.Reader.{Outcome, run, room}
use Rattle.octets.specs.Reader.Reader.{done, skip}
use Rattle.octets.specs.Reader.Outcome.{read, fault}
use Rattle.octets.specs.Refusals.{not_there}
use Rattle.octets.proofs.Tests.{held, failed}
use Rattle.block.specs.Rows.{per_row, Column, cell}
use Rattle.runtime.specs.Views.{is_there, view_as, part_as}
use Rattle.runtime.specs.Addresses.{matches, null, found, missing, seek, lookup_as}
use Rattle.octets.proofs.Parts.{skip-room}

module _ (s t : List ℕ) (row : ℕ) where
  no_row : length t / per_row ≤ row → is_there s t row ≡ false
  no_row h = ap (λ (b : Bool). b && room s (cell t row Column.payload) (cell t row Column.len)) (le-ltb _ _ h)

  pub view-no_row : length t / per_row ≤ row → not_there ≡ view_as s t row
  unfolding view_as
  view-no_row h = sym (failed _ _ (no_row h))

  pub part-no_row : length t / per_row ≤ row → [] ≡ part_as s t row
  unfolding part_as
  part-no_row h = sym (failed _ _ (no_row h))

  module _ (h : row < length t / per_row) (at n : ℕ) (a : at ≡ cell t row Column.payload) (b : n ≡ cell t row Column.len) where
    by-room : is_there s t row ≡ room s at n
    by-room = ap (λ (c : Bool). c && room s (cell t row Column.payload) (cell t row Column.len)) (lt-ltb _ _ h) ∙ rw (a, b) refl

    pub view-there : (next : ℕ) → ◌≡◌ {A = Outcome (Unit {0})} (read tt next) (run (skip n (done tt)) s at) → accepts 0 [] ≡ view_as s t row
    unfolding view_as
    view-there next g = sym (held _ _ (by-room ∙ le-leb _ _ (skip-room n s at next g).1))

    pub view-not_there : (x : Fault) → ◌≡◌ {A = Outcome (Unit {0})} (fault x) (run (skip n (done tt)) s at) → not_there ≡ view_as s t row
    unfolding view_as run
    view-not_there x g = go (room s at n) refl g
      where
        go : (c : Bool) → room s at n ≡ c → ◌≡◌ {A = Outcome (Unit {0})} (fault x) (elim c as (λ (d : Bool). Outcome (Unit {0})) [ true ↦ read tt (at + n) | false ↦ fault (Cut at) ])
            → not_there ≡ view_as s t row
        go true e w = cc
        go false e w = sym (failed _ _ (by-room ∙ e))

    pub part-there : (p : List ℕ) → p ≡ part_of s at n → p ≡ part_as s t row
    unfolding part_of part_as
    part-there p g = g ∙ go (room s at n) refl
      where
        go : (c : Bool) → room s at n ≡ c → part_of s at n ≡ part_as s t row
        go true e = held _ _ e ∙ rw (a, b) refl ∙ sym (held _ _ (by-room ∙ e))
        go false e = failed _ _ e ∙ sym (failed _ _ (by-room ∙ e))

-- a search of n rows that has come to a row: one turn more, and none
module _ (p : ℕ → Bool) (n row : ℕ) where
  pub seek-turn : row < n → seek p (n - row) row ≡ (elim (p row) as (λ (b : Bool). Paper) [ true ↦ found row | false ↦ seek p (n - (row + 1)) (row + 1) ])
  unfolding seek
  seek-turn h =
      let k : n - row ≡ suc (n - (row + 1)) = omega arith in
      ap (λ (m : ℕ). seek p m row) k

  pub seek-over : n ≤ row → seek p (n - row) row ≡ missing
  unfolding seek
  seek-over h =
      let k : n - row ≡ 0 = omega arith in
      ap (λ (m : ℕ). seek p m row) k

pub seek-starts : (p : ℕ → Bool) (n : ℕ) → seek p (n - 0) 0 ≡ seek p n 0
seek-starts p n =
    let k : n - 0 ≡ n = omega arith in
    ap (λ (m : ℕ). seek p m 0) k

-- the search, a row a turn
module _ (t : List ℕ) (rows address : ℕ) where
  pub at_row : ℕ → Bool
  at_row row = matches address (cell t row Column.code) (cell t row Column.address)

  pub lookup_short : length t / per_row < rows → not_there ≡ lookup_as t rows address
  unfolding lookup_as
  lookup_short h = sym (held _ _ (lt-ltb _ _ h))

  module _ (h : rows ≤ length t / per_row) where
    pub lookup_null : address ≡ 0 → null ≡ lookup_as t rows address
    unfolding lookup_as
    lookup_null e = sym (failed _ _ (le-ltb _ _ h) ∙ held _ _ (eq-eqb _ _ e))

    pub lookup_starts : (address ≡ 0 → ⊥) → lookup_as t rows address ≡ seek at_row (rows - 0) 0
    unfolding lookup_as at_row
    lookup_starts e = failed _ _ (le-ltb _ _ h) ∙ failed _ _ (ne_eqb _ _ e) ∙ sym (seek-starts at_row rows)

  -- what is left of the search from a row on
  module _ (row : ℕ) (w : lookup_as t rows address ≡ seek at_row (rows - row) row) where
    module _ (l : row < rows) (b : Bool) (c d : ℕ) (e : b ≡ matches address c d) (f : c ≡ cell t row Column.code) (g : d ≡ cell t row Column.address) where
      here : at_row row ≡ b
      unfolding at_row
      here = sym (e ∙ rw (f, g) refl)

      next_row : seek at_row (rows - row) row ≡ (elim b as (λ (x : Bool). Paper) [ true ↦ found row | false ↦ seek at_row (rows - (row + 1)) (row + 1) ])
      next_row =
          seek-turn at_row rows row l ∙ ap (λ (x : Bool). elim x as (λ (y : Bool). Paper) [ true ↦ found row | false ↦ seek at_row (rows - (row + 1)) (row + 1) ]) here

      pub lookup_found : b ≡ true → found row ≡ lookup_as t rows address
      lookup_found u = sym (w ∙ next_row ∙ held _ _ u)

      pub lookup_on : b ≡ false → lookup_as t rows address ≡ seek at_row (rows - (row + 1)) (row + 1)
      lookup_on u = w ∙ next_row ∙ failed _ _ u

    pub lookup_missing : rows ≤ row → missing ≡ lookup_as t rows address
    lookup_missing l = sym (w ∙ seek-over at_row rows row l)
