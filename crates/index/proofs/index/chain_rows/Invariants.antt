-- `chain_rows`: from the last row to the first, each in front of its chain.
use Rattle.index.specs.Helpers.{Chained}
use Rattle.index.proofs.index.chain_rows.Given as goal

abbrev pub invariant-loop-row : goal.invariant-loop-row
invariant-loop-row l = Chained l.table l.rows l.buckets l.row l.initial.heads l.heads l.initial.links l.links
