-- `get_ptr`: what is left of the search from a row on is all of it.
use mathlib.Core.Path.{◌≡◌}
use Prim.Native.Nat.{◌-◌}
use Rattle.runtime.specs.Addresses.{seek, lookup_as}
use Rattle.runtime.proofs.Views.{at_row}
use Rattle.runtime.proofs.runtime.get_ptr.Given as goal

abbrev pub invariant-loop-row : goal.invariant-loop-row
invariant-loop-row l = lookup_as l.table l.rows l.address ≡ seek (at_row l.table l.rows l.address) (l.rows - l.row) l.row
