-- `array_dimensions` takes the groups while they are complete. The invariant: what was found so far and the groups from here on are what
-- there is in all.
use Prim.Native.Nat.{◌-◌, ◌≤◌}
use mathlib.Core.Path.{◌≡◌}
use lib.ListN.{length, drop}
use Rattle.std.specs.Prelude.{Some}
use Rattle.field.specs.Helpers.{finish}
use Rattle.field.proofs.field.array_dimensions.Given as goal

abbrev pub invariant-loop-d : goal.invariant-loop-d
invariant-loop-d l = (l.at ≤ length l.l) × (l.count ≤ l.at) × (finish 0 (Some 1) 0 l.l ≡ finish l.count l.product l.at (drop l.at l.l))

abbrev pub decreases-loop-d : goal.decreases-loop-d
decreases-loop-d l = length l.l - l.at
