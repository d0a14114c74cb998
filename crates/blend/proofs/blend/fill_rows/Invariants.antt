-- `fill_rows`: a row a turn, up to the last.
use Prim.Native.Nat.{◌-◌}
use mathlib.Core.Path.{◌≡◌}
use lib.ListN.{length}
use Rattle.octets.proofs.Filling.{Storing}
use Rattle.block.specs.Rows.{row_table}
use Rattle.blend.specs.Helpers.{rows_from}
use Rattle.blend.proofs.blend.fill_rows.Given as goal

abbrev pub invariant-loop : goal.invariant-loop
invariant-loop l =
    let rows = rows_from (l.n - l.counter) l.h l.s l.at in
    Storing l.initial.table 0 (row_table (rows_from l.n l.h l.s l.from)) l.table l.i (row_table rows) × (length rows ≡ l.n - l.counter)
