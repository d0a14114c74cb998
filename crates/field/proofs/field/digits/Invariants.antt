-- `digits` reads decimal digits. The invariant: the digits so far are a number of 64 bits, and the rule goes on from here.
use Prim.Native.Nat.{◌≤◌}
use mathlib.Core.Path.{◌≡◌}
use lib.ListN.{drop}
use Rattle.field.specs.Declarators.{most, at_most, digits, unsigned}
use Rattle.field.proofs.field.digits.Given as goal

abbrev pub invariant-loop-b : goal.invariant-loop-b
invariant-loop-b l = (l.n ≤ most) × (unsigned l.part ≡ at_most (digits l.n (drop l.b-index l.part)))
