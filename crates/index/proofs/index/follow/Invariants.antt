-- `follow`: what is left of a chain is all of it.
use Prim.Native.Nat.{◌-◌}
use Rattle.index.proofs.Chains.{Following}
use Rattle.index.proofs.index.follow.Given as goal

abbrev pub invariant-loop-number : goal.invariant-loop-number
invariant-loop-number l = Following l.table l.rows l.links l.address l.head l.last l.number

abbrev pub decreases-loop-number : goal.decreases-loop-number
decreases-loop-number l = l.rows - l.last
