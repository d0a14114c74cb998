-- `fill_structs`: as `fill_names`, with the fields counted so far as the next first row.
use Prim.Native.Nat.{◌-◌, ◌≤◌}
use Rattle.octets.specs.Helpers.{leading}
use Rattle.octets.proofs.Filling.{Storing}
use Rattle.dna.specs.Catalogue.{struct_rows, struct}
use Rattle.dna.specs.Passes.{structs_of}
use Rattle.dna.proofs.dna.fill_structs.Given as goal

abbrev pub invariant-loop : goal.invariant-loop
invariant-loop l =
    let n = l.fn.structs in
    Storing l.fn.table 0 (struct_rows 0 (structs_of l.e l.s n)) l.table l.at (struct_rows l.row (leading (n.count - l.counter) (struct l.e) l.s l.here.at)) × (l.row ≤ l.here.at)
