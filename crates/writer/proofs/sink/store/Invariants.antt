-- `store`: a byte a turn, up to the last.
use Prim.Native.Nat.{◌+◌}
use lib.ListN.{drop}
use Rattle.octets.proofs.Filling.{Storing}
use Rattle.writer.proofs.sink.store.Given as goal

abbrev pub invariant-loop-i : goal.invariant-loop-i
invariant-loop-i l = Storing l.initial.out l.at l.part l.out (l.at + l.i) (drop l.i l.part)
