-- Each turn reads something.
use Rattle.vectors.proofs.skip.Given as goal

abbrev pub decreases-loop-left : goal.decreases-loop-left
decreases-loop-left g l = l.left
