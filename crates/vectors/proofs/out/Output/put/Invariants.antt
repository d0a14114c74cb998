-- `put`: what is left and what is held are fewer, since each turn fills the buffer and writes it.
use Rattle.std.proofs.Common.{◌+◌, length}
use Rattle.vectors.proofs.out.Output.put.Given as goal

abbrev pub decreases-loop-self : goal.decreases-loop-self
decreases-loop-self l = length l.rest + l.self.held
