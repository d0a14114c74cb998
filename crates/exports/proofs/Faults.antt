-- A fault in numbers: its refusal and its place, and nothing else.
use Prim.Native.Nat.{ℕ}
use mathlib.Core.Bool.{Bool, true, false}
use mathlib.Core.List.{List}
use mathlib.Core.Path.{◌≡◌, refl, sym, ◌∙◌, ap}
use Rattle.octets.specs.declared.Fault.{Fault}
use Rattle.octets.specs.declared.Fault.TheVariants.{Cut, Mark}
use Rattle.octets.specs.Paper.{Paper}
use Rattle.octets.specs.Refusals.{number_of, refusal_of, place_of, paper_fault}
use Rattle.exports.specs.Exports.{is_placed, fault_at, needed_at, header_told, header_out, read_told, read_out, catalogue_told, catalogue_out, dna_of, place_from, step_told, step_out}
use Rattle.header.specs.Header.{header_bytes}
use Rattle.walker.specs.declared.Place.{Place}
use Rattle.walker.specs.declared.Step.{Step}
use Rattle.walker.specs.Calls.{«Place::step»}
use Rattle.walker.specs.Walker.{step_by, paper_step, place_of as next_of}

either : (b : Bool) → ◌≡◌ {A = ℕ} (elim b as (λ (c : Bool). ℕ) [ true ↦ 0 | false ↦ 0 ]) 0
either true = refl
either false = refl

pub place-told : (x : Fault) → place_of x ≡ fault_at (paper_fault x)
place-told (Cut at) = refl
place-told (Mark at) = refl
place-told (Fault.Refusal n) = sym (either (is_placed (number_of n)))

pub nothing_else : (x : Fault) (i : ℕ) → 0 ≡ needed_at (paper_fault x) i
nothing_else (Cut at) i = refl
nothing_else (Mark at) i = refl
nothing_else (Fault.Refusal n) i = sym (either (is_placed (number_of n)))

module _ (x : Fault) where
  pub header_refused : header_told (refusal_of x) (place_of x) (λ i. 0) ≡ header_out (paper_fault x)
  header_refused = ap (λ (at : ℕ). header_told (refusal_of x) at (λ i. 0)) (place-told x)

  pub read_refused : read_told (refusal_of x) (place_of x) 0 (λ i. 0) ≡ read_out (paper_fault x)
  read_refused =
      ap (λ (at : ℕ). read_told (refusal_of x) at 0 (λ i. 0)) (place-told x) ∙ ap (λ (n : ℕ). read_told (refusal_of x) (fault_at (paper_fault x)) n (λ i. 0)) (nothing_else x 0)

  pub catalogue_refused : catalogue_told (refusal_of x) (place_of x) 0 0 (λ i. 0) ≡ catalogue_out (paper_fault x)
  catalogue_refused =
      ap (λ (at : ℕ). catalogue_told (refusal_of x) at 0 0 (λ i. 0)) (place-told x)
      ∙ ap (λ (t : ℕ). catalogue_told (refusal_of x) (fault_at (paper_fault x)) t 0 (λ i. 0)) (nothing_else x 0)
      ∙ ap (λ (n : ℕ). catalogue_told (refusal_of x) (fault_at (paper_fault x)) (needed_at (paper_fault x) 0) n (λ i. 0)) (nothing_else x 1)

  pub step-refused : (next : Place) → step_told (refusal_of x) (place_of x) 0 (λ c. 0) 0 next ≡ step_out (paper_fault x) next
  step-refused next = ap (λ (at : ℕ). step_told (refusal_of x) at 0 (λ c. 0) 0 next) (place-told x)

-- a step from the place that two numbers stand for
pub step_by_lem : (s : List ℕ) (at dna : ℕ) (b : Bool) → b ≡ dna_of dna → (a : Step) → «Place::step» (record { at = at; dna = b }) s a
    → step_out (paper_step a) (next_of a) ≡ step_out (step_by header_bytes s (place_from at dna)).answer (step_by header_bytes s (place_from at dna)).place
step_by_lem s at dna b e a w =
    ap (λ (p : Paper). step_out p (next_of a)) w.0 ∙ ap (step_out (step_by header_bytes s (record { at = at; dna = b })).answer) w.1
    ∙ ap (λ (d : Bool). step_out (step_by header_bytes s (record { at = at; dna = d })).answer (step_by header_bytes s (record { at = at; dna = d })).place) e
