-- `fill_types`: as `fill_names`, with strings and sizes read side by side.
use Prim.Native.Nat.{◌-◌}
use Rattle.octets.specs.Helpers.{leading}
use Rattle.octets.proofs.Filling.{Storing}
use Rattle.dna.specs.Catalogue.{type_rows, text, size}
use Rattle.dna.specs.Passes.{texts_of, sizes_of}
use Rattle.dna.proofs.dna.fill_types.Given as goal

abbrev pub invariant-loop : goal.invariant-loop
invariant-loop l =
    let n = l.fn.types in
    Storing l.fn.table 0 (type_rows (texts_of l.s n) (sizes_of l.e l.s n.count l.fn.sizesat)) l.table l.at (type_rows (leading (n.count - l.counter) text l.s l.here.at) (leading (n.count - l.counter) (size l.e) l.s l.there.at))
