-- `fill_names`: the rows written so far and those of the names that are left are the rows of all names.
use Prim.Native.Nat.{◌-◌}
use Rattle.octets.specs.Helpers.{leading}
use Rattle.octets.proofs.Filling.{Storing}
use Rattle.dna.specs.Catalogue.{pairs, text}
use Rattle.dna.specs.Passes.{texts_of}
use Rattle.dna.proofs.dna.fill_names.Given as goal

abbrev pub invariant-loop : goal.invariant-loop
invariant-loop l =
    let n = l.fn.names in
    Storing l.fn.table 0 (pairs (texts_of l.s n)) l.table l.at (pairs (leading (n.count - l.counter) text l.s l.here.at))
