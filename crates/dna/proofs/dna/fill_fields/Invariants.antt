-- `fill_fields`: struct after struct, each from the row where those of the last ended.
use Prim.Native.Nat.{◌-◌}
use Rattle.octets.specs.Helpers.{leading}
use Rattle.octets.proofs.Filling.{Storing}
use Rattle.dna.specs.Catalogue.{field_rows, struct}
use Rattle.dna.specs.Passes.{structs_of}
use Rattle.dna.proofs.dna.fill_fields.Given as goal

abbrev pub invariant-loop : goal.invariant-loop
invariant-loop l =
    let n = l.fn.structs in
    Storing l.fn.table 0 (field_rows (structs_of l.e l.s n)) l.table l.at (field_rows (leading (n.count - l.counter) (struct l.e) l.s l.here.at))
