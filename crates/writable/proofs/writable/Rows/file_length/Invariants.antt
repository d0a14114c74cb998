-- `file_length`: the sum so far and what is left make the whole.
use Prim.Native.Nat.{◌+◌, ◌-◌, ◌^◌, ◌≤◌}
use mathlib.Core.Path.{◌≡◌}
use Rattle.block.specs.Rows.{rows_spelt}
use Rattle.writable.specs.Writable.{blocks_length}
use Rattle.writable.proofs.writable.Rows.file_length.Given as goal

abbrev pub invariant-loop-row : goal.invariant-loop-row
invariant-loop-row l = (l.initial.sum + blocks_length l.header (rows_spelt l.self.table.now l.self.n 0) ≡ l.sum + blocks_length l.header (rows_spelt l.self.table.now (l.self.n - l.row) l.row)) × (l.sum ≤ 2 ^ 64 - 1)
