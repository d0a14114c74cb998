-- `judged`: what is left of the rows decides as all of them do.
use Rattle.std.specs.Prelude.{None}
use Prim.Native.Nat.{◌-◌}
use mathlib.Core.Path.{◌≡◌}
use Rattle.block.specs.Rows.{rows_spelt}
use Rattle.writable.specs.Writable.{all_judged}
use Rattle.writable.proofs.writable.Rows.judged.Given as goal

abbrev pub invariant-loop-row : goal.invariant-loop-row
invariant-loop-row l = all_judged l.order l.source (rows_spelt l.self.table.now l.self.n 0) None ≡ all_judged l.order l.source (rows_spelt l.self.table.now (l.self.n - l.row) l.row) l.last
