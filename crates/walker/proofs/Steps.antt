-- Laws of one step of the walker, from what the code asked.
use Rattle.std.specs.Prelude.{Result}
use Prim.Native.Nat.{ℕ, ◌≤◌, ◌<◌}
use mathlib.Core.List.{List}
use mathlib.Core.Path.{◌≡◌, sym, ◌∙◌, ap}
use borrow.Author.Tests.{lt-ltb, le-ltb}
use lib.ListN.{length}
use Rattle.octets.specs.declared.Fault.{Fault}
use Rattle.octets.specs.Paper.{Paper}
use Rattle.octets.specs.Reader.{Reader, run}
use Rattle.octets.specs.Reader.Outcome.{read, fault}
use Rattle.octets.specs.Refusals.{not_there, paper_fault}
use Rattle.octets.proofs.Tests.{held, failed}
use Rattle.header.specs.declared.Header.{Header}
use Rattle.blend.specs.declared.blend.Boundary.{Boundary}
use Rattle.walker.specs.declared.Place.{Place}
use Rattle.header.specs.Header.{HeaderBytes, valued}
use Rattle.blend.specs.Blocks.{boundary_of}
use Rattle.walker.specs.Walker.{Walked, stays, step_over, stands_for, on_header, step_by}

module _ (header : Reader HeaderBytes) (s : List ℕ) (p : Place) where
  pub step_past : length s < p.at → step_by header s p ≡ stays p not_there
  unfolding step_by
  step_past h = held _ _ (lt-ltb _ _ h)

  module _ (i : p.at ≤ length s) where
    on-header : step_by header s p ≡ on_header s p (valued (run header s 0))
    unfolding step_by
    on-header = failed _ _ (le-ltb _ _ i)

    pub step-refused : (x : Fault) → valued (run header s 0) ≡ fault x → step_by header s p ≡ stays p (paper_fault x)
    step-refused x g = on-header ∙ ap (on_header s p) g

    module _ (h : Header) (first : ℕ) (g : valued (run header s 0) ≡ read h first) where
      pub step_over_lem : (b : Place) → b ≡ stands_for first p → (d : Result Boundary Fault) → boundary_of h s b.at ≡ d → step_by header s p ≡ step_over p b d
      step_over_lem b e d w =
          on-header ∙ ap (on_header s p) g ∙ ap (λ (q : Place). step_over p q (boundary_of h s q.at)) (sym e) ∙ ap (step_over p b) w

-- the answer and the place, each by itself
pub step_told_lem : (w v : Walked) → w ≡ v → (a : Paper) → a ≡ v.answer → (q : Place) → q ≡ v.place → (a ≡ w.answer) × (q ≡ w.place)
step_told_lem w v e a f q g = (f ∙ ap (λ (x : Walked). x.answer) (sym e), g ∙ ap (λ (x : Walked). x.place) (sym e))
