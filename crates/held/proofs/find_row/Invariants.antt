-- `find_row`: what is left of the search from a row on is all of it.
use Rattle.std.proofs.Common.{◌-◌, ◌≡◌, get_or}
use Rattle.block.specs.Rows.{none}
use Rattle.runtime.specs.Addresses.{seek}
use Rattle.held.specs.Held.{is_row, lookup_rows}
use Rattle.held.proofs.find_row.Given as goal

abbrev pub invariant-loop-i : goal.invariant-loop-i
invariant-loop-i l = seek (λ k. is_row l.address (get_or l.rows k none)) (l.n - l.i) l.i ≡ lookup_rows l.rows l.n l.address
