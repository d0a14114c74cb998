-- `array_dimensions` takes the groups while they are complete.
use Prim.Native.Nat.{◌+◌, ◌≤◌}
use mathlib.Core.Path.{◌≡◌, sym, ◌∙◌}
use native.Mathlib.Omega.{arith}
use lib.ListN.{length, drop}
use lib.Seq.{drop-drop}
use Rattle.std.specs.Prelude.{Some, Ok}
use Rattle.octets.proofs.Results.{handed_on}
use Rattle.field.specs.Helpers.{group_of}
use Rattle.field.proofs.Dimensions.{group_at, within, finish-is, finish_bad, finish_absent}
use Rattle.field.proofs.field.array_dimensions.Goals as goal
use Rattle.field.proofs.field.array_dimensions.Goals.{In-Some}

-- the group at the place, and that it lies within the bytes
turn : (c : In-Some) → group_of (drop c.loop-d.at c.args.l.now) ≡ Ok (Some (c.in-Some.d, c.in-Some.span))
turn c = group_at c.args.l.now c.loop-d.at _ (rw c.in-Some.is at c.in_ok-d.ensures)

inside : (c : In-Some) → (2 ≤ c.in-Some.span) × (c.loop-d.at + c.in-Some.span ≤ length c.args.l.now)
inside c = within c.args.l.now c.loop-d.at _ _ c.loop-d.invariant.0 (turn c)

pub returns-in_err-d : goal.returns-in_err-d
returns-in_err-d c =
    let l = c.args.l.now in
    handed_on _ _ c.from_residual.ensures.1 ∙ finish_bad _ _ _ _ _ (group_at l c.loop-d.at _ c.in_err-d.ensures) ∙ sym c.loop-d.invariant.2

pub overflow_add-at : goal.overflow_add-at
overflow_add-at c = omega (arith, inside (goal.at.overflow_add-at c).In-Some)

pub loop-d-smaller : goal.loop-d-smaller
loop-d-smaller c = omega (arith, inside (goal.at.loop-d-smaller c).In-Some)

pub loop-d-preserved : goal.loop-d-preserved
loop-d-preserved c =
    let w = inside (goal.at.loop-d-preserved c).In-Some in
    (w.1, omega (arith, w.0), c.loop-d.invariant.2 ∙ finish-is _ _ _ _ _ _ (turn (goal.at.loop-d-preserved c).In-Some) ∙ rw (drop-drop, c.times-product.ensures))

pub returns : goal.returns
returns c =
    let l = c.args.l.now in
    finish_absent _ _ _ _ (group_at l c.loop-d.at _ (rw c.in_default.is at c.in_ok-d.ensures)) ∙ sym c.loop-d.invariant.2
