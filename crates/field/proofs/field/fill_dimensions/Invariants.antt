-- `fill_dimensions` writes the numbers in order. The invariant is `Filling`: the numbers so far, and then what the table held.
use Rattle.field.proofs.Dimensions.{Filling}
use Rattle.field.proofs.field.fill_dimensions.Given as goal

abbrev pub invariant-loop-slot : goal.invariant-loop-slot
invariant-loop-slot l = Filling l.l l.initial.dimensions l.dimensions l.slot-index l.at
