-- `first_unfit`: the first among the rows that are left is the first of all.
use Prim.Native.Nat.{◌-◌}
use mathlib.Core.Path.{◌≡◌}
use Rattle.block.specs.Rows.{rows_spelt}
use Rattle.writable.specs.Writable.{first_unfit}
use Rattle.writable.proofs.writable.Rows.first_unfit.Given as goal

abbrev pub invariant-loop-row : goal.invariant-loop-row
invariant-loop-row l = first_unfit l.h (rows_spelt l.self.table.now l.self.n 0) 0 ≡ first_unfit l.h (rows_spelt l.self.table.now (l.self.n - l.row) l.row) l.row
