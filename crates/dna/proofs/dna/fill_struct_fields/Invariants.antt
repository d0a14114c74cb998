-- `fill_struct_fields`: as `fill_names`, from a row of the table on, with records that are all there.
use Prim.Native.Nat.{◌+◌, ◌-◌, ◌*◌}
use Rattle.octets.specs.Helpers.{leading}
use Rattle.octets.proofs.Filling.{Storing}
use Rattle.dna.specs.Catalogue.{pairs, field}
use Rattle.dna.specs.Passes.{fields_of}
use Rattle.dna.proofs.dna.fill_struct_fields.Given as goal

abbrev pub invariant-loop-i : goal.invariant-loop-i
invariant-loop-i l =
    let n = l.fields in
    Storing l.fn.table l.fn.at (pairs (fields_of l.e l.s n)) l.table l.next (pairs (leading (n.count - l.i) (field l.e) l.s (n.at + 4 * l.i)))
