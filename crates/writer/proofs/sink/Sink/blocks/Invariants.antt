-- `blocks`: a block a turn, up to the last row.
use Prim.Native.Nat.{◌-◌}
use mathlib.Core.Path.{◌≡◌}
use Rattle.octets.proofs.Filling.{Storing}
use Rattle.block.specs.Rows.{rows_spelt}
use Rattle.writer.specs.Helpers.{Inside}
use Rattle.writer.specs.Writer.{blocks_out}
use Rattle.writer.proofs.sink.Sink.blocks.Given as goal

abbrev pub invariant-loop-row : goal.invariant-loop-row
invariant-loop-row l =
    record {
      same_reference : l.self.out.ghost_name ≡ l.initial.self.out.ghost_name;
      storing : Storing l.initial.self.out.now l.initial.self.at (blocks_out l.h l.source (rows_spelt l.rows.table.now l.rows.n 0)) l.self.out.now l.self.at (blocks_out l.h l.source (rows_spelt l.rows.table.now (l.rows.n - l.row) l.row));
      inside : Inside l.source (rows_spelt l.rows.table.now (l.rows.n - l.row) l.row);
    }
