-- `block_header`: the code, and then the numbers of its edition.
use native.Mathlib.Omega.{arith}
use Rattle.octets.specs.declared.Endianness.TheVariants.{Big}
use Rattle.block.specs.Spelling.{block_header_out}
use Rattle.writer.proofs.Storing.{stored-number}
use Rattle.writer.proofs.sink.Sink.block_header.Goals as goal

pub returns-in-Legacy : goal.returns-in-Legacy
unfolding block_header_out
returns-in-Legacy c = rw c.in-Legacy.is (stored-number Big 4 c.args.r.code _ _ _ (omega arith) c.four.ensures c.legacy.ensures)

pub returns-in-New : goal.returns-in-New
unfolding block_header_out
returns-in-New c = rw c.in-New.is (stored-number Big 4 c.args.r.code _ _ _ (omega arith) c.four.ensures c.new_form.ensures)
