-- `fill_dimensions` writes the numbers in order.
use mathlib.Core.Path.{◌≡◌, ◌∙◌, sym}
use native.Mathlib.Omega.{arith}
use Rattle.std.specs.Prelude.{None, Ok}
use Rattle.field.proofs.Dimensions.{group_at, within, filling_goes_on, ends-absent, ends_bad}
use Rattle.field.proofs.field.fill_dimensions.Goals as goal

pub returns-in_default : goal.returns-in_default
returns-in_default c =
    let e : c.one_group.result ≡ Ok None = cc in
    ends-absent _ _ _ _ _ c.loop-slot.invariant (group_at c.args.l.now c.loop-slot.at _ (sym e ∙ c.one_group.ensures))

pub returns-in_default-2 : goal.returns-in_default-2
returns-in_default-2 c = ends_bad _ _ _ _ _ c.loop-slot.invariant _ (group_at c.args.l.now c.loop-slot.at _ (sym c.in_default.is ∙ c.one_group.ensures))

pub overflow_add-at : goal.overflow_add-at
overflow_add-at c =
    let l = c.args.l.now in
    let g = group_at l c.loop-slot.at _ (rw c.in-Ok-Some.field-0-is at c.in-Ok-Some.ensures) in
    omega (arith, within l c.loop-slot.at _ _ c.loop-slot.invariant.within g)

pub loop-slot-preserved : goal.loop-slot-preserved
loop-slot-preserved c =
    let l = c.args.l.now in
    let g = group_at l c.loop-slot.at _ (rw c.in-Ok-Some.field-0-is at c.in-Ok-Some.ensures) in
    filling_goes_on _ _ _ _ _ c.loop-slot.invariant _ _ g c.requires
