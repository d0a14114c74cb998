-- How a row is judged: by its code, by its place in the source, and one row after another.
use Rattle.std.specs.Prelude.{Result, Ok, Err, Some, None}
use Prim.Native.Nat.{ℕ, suc, ◌+◌, ◌-◌, ◌/◌, ◌≤◌, ◌<◌}
use mathlib.Core.Bool.{Bool, true, false}
use mathlib.Core.List.{List, [], ◌∷◌}
use mathlib.Core.Path.{◌≡◌, refl, sym, ◌∙◌, ap}
use native.Mathlib.Omega.{arith}
use borrow.Author.Tests.{lt-ltb, le-leb, lt-leb, eq-eqb, ne_eqb}
use lib.Dec.{ltb}
use lib.ListN.{length}
use Rattle.octets.specs.declared.Endianness.{Endianness}
use Rattle.octets.specs.declared.Fault.{Fault}
use Rattle.octets.specs.declared.Refusal.TheVariants.{InvalidMemoryAddress, NotThere, UnknownBlockCode, UnsupportedCountOnPrincipalBlock}
use Rattle.octets.specs.Cursor.{part_of}
use Rattle.octets.specs.Reader.{Reader, Outcome, run, then}
use Rattle.octets.specs.Reader.Reader.{done}
use Rattle.octets.specs.Reader.Outcome.{read, fault}
use Rattle.octets.proofs.Reading.{onwards, run-then}
use Rattle.octets.proofs.Tests.{held, failed}
use Rattle.dna.specs.declared.dna.DnaCounts.{DnaCounts}
use Rattle.dna.specs.Catalogue.{Dna, catalogue, counts, counts_only, outcome_of}
use Rattle.block.specs.declared.Row.{Row}
use Rattle.block.specs.declared.Kind.{Kind}
use Rattle.block.specs.declared.Takes.{Takes}
use Rattle.block.specs.declared.About.{About}
use Rattle.block.specs.Kinds.{kind_of, about}
use Rattle.block.specs.Rows.{per_row, row_spelt, rows_spelt, none, payload_of}
use Rattle.blend.specs.Blocks.{taken_by}
use Rattle.writable.specs.Writable.{Last, as_last, judged_by, judged, on_judged, all_judged}

-- a Principal is no DNA1
alone_other : (k : Kind) → (about k).takes ≡ Takes.Alone → (about k).dna ≡ false
alone_other Kind.Rend e = cc
alone_other Kind.Test e = cc
alone_other Kind.Global e = cc
alone_other Kind.Subsidiary e = cc
alone_other Kind.Principal e = refl
alone_other Kind.Dna e = cc
alone_other Kind.Unknown e = cc

-- what is read of a payload after its code
abbrev after_code : Endianness → Bool → Reader Last
after_code e b = elim b as (λ c. Reader Last) [ true ↦ then (catalogue e) (λ d. done (Some (counts d))) | false ↦ done None ]

-- A payload, by what follows from its kind.
module _ (e : Endianness) (code count : ℕ) (part : List ℕ) (k : Kind) (q : k ≡ kind_of code) (a : About) (d : a ≡ about k) where
  by_takes : (t : Takes) → a.takes ≡ t → run (as_last e code count) part 0 ≡ onwards (run (taken_by t count) part 0) (λ u next. run (after_code e a.dna) part next)
  unfolding as_last
  by_takes t g =
      let x : about (kind_of code) ≡ a = sym (d ∙ ap about q) in
      run-then (taken_by (about (kind_of code)).takes count) (λ u. after_code e (about (kind_of code)).dna) part 0
      ∙ ap (λ (b : About). onwards (run (taken_by b.takes count) part 0) (λ u next. run (after_code e b.dna) part next)) x
      ∙ ap (λ (s : Takes). onwards (run (taken_by s count) part 0) (λ u next. run (after_code e a.dna) part next)) g

  pub never_judged : a.takes ≡ Takes.Never → Err (Fault.Refusal UnknownBlockCode) ≡ judged_by (run (as_last e code count) part 0)
  unfolding run
  never_judged g = ap judged_by (sym (by_takes Takes.Never g))

  as_other : a.dna ≡ false → run (after_code e a.dna) part 0 ≡ read None 0
  unfolding run
  as_other g = ap (λ (b : Bool). run (after_code e b) part 0) g

  pub alone_judged : a.takes ≡ Takes.Alone → count ≡ 1 → Ok None ≡ judged_by (run (as_last e code count) part 0)
  unfolding run
  alone_judged g c =
      let n : a.dna ≡ false = ap (λ (b : About). b.dna) d ∙ alone_other k (ap (λ (b : About). b.takes) (sym d) ∙ g) in
      sym (
      ap judged_by
      (by_takes Takes.Alone g ∙ ap (λ (m : ℕ). onwards (run (taken_by Takes.Alone m) part 0) (λ u next. run (after_code e a.dna) part next)) c ∙ as_other n)
      )

  pub alone_refused : a.takes ≡ Takes.Alone → (count ≡ 1 → ⊥) → Err (Fault.Refusal UnsupportedCountOnPrincipalBlock) ≡ judged_by (run (as_last e code count) part 0)
  unfolding run
  alone_refused g c =
      let f : taken_by Takes.Alone count ≡ _ = failed _ _ (ne_eqb _ _ c) in
      sym (ap judged_by (by_takes Takes.Alone g ∙ ap (λ (r : Reader (Unit {0})). onwards (run r part 0) (λ u next. run (after_code e a.dna) part next)) f))

  module _ (g : a.takes ≡ Takes.Always) where
    pub always_other : a.dna ≡ false → Ok None ≡ judged_by (run (as_last e code count) part 0)
    unfolding run
    always_other n = sym (ap judged_by (by_takes Takes.Always g ∙ as_other n))

    -- the catalogue, as its counting answered it
    module _ (n : a.dna ≡ true) (c : Result (DnaCounts × ℕ) Fault) (w : outcome_of c ≡ counts_only (run (catalogue e) part 0)) where
      as-dna : judged_by (run (as_last e code count) part 0) ≡ judged_by (onwards (run (catalogue e) part 0) (λ d next. read (Some (counts d)) next))
      unfolding run
      as-dna =
          ap judged_by
          (by_takes Takes.Always g ∙ ap (λ (b : Bool). run (after_code e b) part 0) n ∙ run-then (catalogue e) (λ d. done (Some (counts d))) part 0)

      pub dna-judged : (m : DnaCounts) (end : ℕ) → c ≡ Ok (m, end) → Ok (Some m) ≡ judged_by (run (as_last e code count) part 0)
      dna-judged m end x = go (run (catalogue e) part 0) refl (sym (ap outcome_of x) ∙ w)
        where
          go : (o : Outcome Dna) → run (catalogue e) part 0 ≡ o → read m end ≡ counts_only o → Ok (Some m) ≡ judged_by (run (as_last e code count) part 0)
          go (read b f) u v =
              let y : m ≡ counts b = cc in
              ap (λ (j : DnaCounts). (Ok (Some j))) y ∙ sym (as-dna ∙ ap (λ (o : Outcome Dna). judged_by (onwards o (λ d next. read (Some (counts d)) next))) u)
          go (fault y) u v = cc

      pub dna-refused : (y : Fault) → c ≡ Err y → Err y ≡ judged_by (run (as_last e code count) part 0)
      dna-refused y x = go (run (catalogue e) part 0) refl (sym (ap outcome_of x) ∙ w)
        where
          go : (o : Outcome Dna) → run (catalogue e) part 0 ≡ o → fault y ≡ counts_only o → Err y ≡ judged_by (run (as_last e code count) part 0)
          go (read b f) u v = cc
          go (fault z) u v =
              let m : y ≡ z = cc in
              ap Err m ∙ sym (as-dna ∙ ap (λ (o : Outcome Dna). judged_by (onwards o (λ d next. read (Some (counts d)) next))) u)

-- A row: its address, and its payload.
module _ (e : Endianness) (s : List ℕ) (r : Row) where
  pub null-judged : r.address ≡ 0 → Err (Fault.Refusal InvalidMemoryAddress) ≡ judged e s r
  unfolding judged
  null-judged z = sym (held _ _ (eq-eqb _ _ z))

  module _ (z : r.address ≡ 0 → ⊥) where
    pub outside-judged : length s < r.payload + r.len → Err (Fault.Refusal NotThere) ≡ judged e s r
    unfolding judged
    outside-judged l = sym (failed _ _ (ne_eqb _ _ z) ∙ failed _ _ (lt-leb _ _ l))

    pub inside-judged : r.payload + r.len ≤ length s → (p : List ℕ) → p ≡ part_of s r.payload r.len → (j : Result Last Fault) → j ≡ judged_by (run (as_last e r.code r.count) p 0) → j ≡ judged e s r
    unfolding judged part_of
    inside-judged l p g j h =
        let x : p ≡ payload_of s r = g ∙ held _ _ (le-leb _ _ l) in
        h ∙ ap (λ (q : List ℕ). judged_by (run (as_last e r.code r.count) q 0)) x ∙ sym (failed _ _ (ne_eqb _ _ z) ∙ held _ _ (le-leb _ _ l))

-- a row of a table
module _ (t : List ℕ) (row : ℕ) (r : Row) (e : r ≡ (elim (ltb row (length t / per_row)) as (λ b. Row) [ true ↦ row_spelt t row | false ↦ none ])) where
  pub row_known : row < length t / per_row → r ≡ row_spelt t row
  row_known h = e ∙ held _ _ (lt-ltb _ _ h)

-- all rows are left at first, and then they go one after another
pub rows_all : (t : List ℕ) (rows : ℕ) → rows_spelt t rows 0 ≡ rows_spelt t (rows - 0) 0
rows_all t rows =
    let e : rows ≡ rows - 0 = omega arith in
    ap (λ (n : ℕ). rows_spelt t n 0) e

module _ (t : List ℕ) (rows row : ℕ) where
  pub rows_more : row < rows → rows_spelt t (rows - row) row ≡ row_spelt t row ∷ rows_spelt t (rows - (row + 1)) (row + 1)
  unfolding rows_spelt
  rows_more h =
      let e : rows - row ≡ suc (rows - (row + 1)) = omega arith in
      ap (λ (n : ℕ). rows_spelt t n row) e

  pub rows_none : rows ≤ row → rows_spelt t (rows - row) row ≡ []
  unfolding rows_spelt
  rows_none h =
      let e : rows - row ≡ 0 = omega arith in
      ap (λ (n : ℕ). rows_spelt t n row) e

-- all rows, the next of them first
module _ (e : Endianness) (s t : List ℕ) (rows row : ℕ) (last : Last) (k : row < rows) (r : Row) (g : r ≡ row_spelt t row) where
  abbrev left : Result Last Fault
  left = all_judged e s (rows_spelt t (rows - row) row) last

  next-judged : left ≡ on_judged (judged e s r) (all_judged e s (rows_spelt t (rows - (row + 1)) (row + 1)))
  unfolding all_judged
  next-judged = ap (λ (rs : List Row). all_judged e s rs last) (rows_more t rows row k) ∙ ap (λ (q : Row). on_judged (judged e s q) (all_judged e s (rows_spelt t (rows - (row + 1)) (row + 1)))) (sym g)

  pub judging_stops : (f : Fault) → Err f ≡ judged e s r → Err f ≡ left
  judging_stops f h = sym (next-judged ∙ ap (λ (j : Result Last Fault). on_judged j (all_judged e s (rows_spelt t (rows - (row + 1)) (row + 1)))) (sym h))

  pub judging_goes : (l : Last) → Ok l ≡ judged e s r → left ≡ all_judged e s (rows_spelt t (rows - (row + 1)) (row + 1)) l
  judging_goes l h = next-judged ∙ ap (λ (j : Result Last Fault). on_judged j (all_judged e s (rows_spelt t (rows - (row + 1)) (row + 1)))) (sym h)

pub judging_ends : (e : Endianness) (s t : List ℕ) (rows row : ℕ) (last : Last) → rows ≤ row → Ok last ≡ all_judged e s (rows_spelt t (rows - row) row) last
unfolding all_judged
judging_ends e s t rows row last h = sym (ap (λ (rs : List Row). all_judged e s rs last) (rows_none t rows row h))
