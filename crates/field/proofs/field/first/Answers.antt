-- `first` finds a byte from a place on.
use Prim.Native.Nat.{◌+◌}
use mathlib.Core.Path.{◌≡◌}
use native.Mathlib.Omega.{arith}
use Rattle.field.specs.Declarators.{first}
use Rattle.field.proofs.Dimensions.{first_on, first-le}
use Rattle.field.proofs.field.first.Goals as goal

pub overflow_add-result : goal.overflow_add-result
overflow_add-result c =
    let a = c.args in
    let e : a.at + c.before-2.result ≡ first a.c a.s.now a.at = first_on a.c a.s.now a.at _ c.before-2.ensures in
    omega (arith, first-le a.c a.s.now a.at c.if-s-at.false)
