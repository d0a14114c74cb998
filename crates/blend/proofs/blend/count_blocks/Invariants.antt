-- `count_blocks`: what is counted and what is left make the whole.
use Prim.Native.Nat.{◌-◌}
use lib.ListN.{length}
use Rattle.blend.proofs.Chains.{Counting}
use Rattle.blend.proofs.blend.count_blocks.Given as goal

abbrev pub invariant-loop-pass : goal.invariant-loop-pass
invariant-loop-pass l = Counting l.h l.s l.from l.pass

abbrev pub decreases-loop-pass : goal.decreases-loop-pass
decreases-loop-pass l = length l.s - l.pass.at
