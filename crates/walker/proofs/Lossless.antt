-- The papers and the outcomes of the answers lose nothing: two answers that are told alike are the same answer.
use mathlib.Core.Path.{◌≡◌}
use Rattle.octets.proofs.Lossless.{whole-fault}
use Rattle.block.proofs.Lossless.{whole_row}
use Rattle.walker.specs.declared.Step.{Step}
use Rattle.walker.specs.Walker.{paper_step, place_of}

-- a step's answer, with the place that it hands back
pub whole-step : (a b : Step) → paper_step a ≡ paper_step b → place_of a ≡ place_of b → a ≡ b
whole-step (Step.Block r p) (Step.Block q o) e g = cc (whole_row r q (cc))
whole-step (Step.Block r p) (Step.End n o) e g = cc
whole-step (Step.Block r p) (Step.Refused n o) e g = cc
whole-step (Step.End m p) (Step.Block q o) e g = cc
whole-step (Step.End m p) (Step.End n o) e g = cc
whole-step (Step.End m p) (Step.Refused n o) e g = cc
whole-step (Step.Refused m p) (Step.Block q o) e g = cc
whole-step (Step.Refused m p) (Step.End n o) e g = cc
whole-step (Step.Refused x p) (Step.Refused y o) e g =
    let f = whole-fault x y e in
    cc
