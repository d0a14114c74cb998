-- `fill_fields`: struct after struct, each from the row where those of the last ended.
use Prim.Native.Nat.{◌+◌, ◌-◌}
use Rattle.octets.specs.Helpers.{leading}
use Rattle.octets.proofs.Filling.{storing_ends, row_fits_lem, row-stored}
use Rattle.dna.specs.Catalogue.{pairs, field_rows, field, struct}
use Rattle.dna.proofs.Rows.{fields_more, fields-no_more, fields-none}
use Rattle.dna.proofs.dna.fill_fields.Goals as goal

pub fill_struct_fields-at-requires-clause-rows_in_bounds : goal.fill_struct_fields-at-requires-clause-rows_in_bounds
fill_struct_fields-at-requires-clause-rows_in_bounds c =
    let a = c.args in
    let l = c.loop in
    row_fits_lem _ _ _ _ _ (pairs (leading c.in-Ok.count (field a.e) a.s.now (l.here.at + 4))) (field_rows (leading (a.structs.count - (l.counter + 1)) (struct a.e) a.s.now c.in-Ok.next.at)) _ l.invariant (fields_more a.e a.s.now a.structs.count l.counter _ c.loop-test.true _ _ _ c.in-Ok.ensures.0)

pub loop-preserved : goal.loop-preserved
loop-preserved c =
    let a = c.args in
    let l = c.loop in
    row-stored _ _ _ _ _ (pairs (leading c.in-Ok.count (field a.e) a.s.now (l.here.at + 4))) _ _ l.invariant (fields_more a.e a.s.now a.structs.count l.counter _ c.loop-test.true _ _ _ c.in-Ok.ensures.0) _ _ c.fill_struct_fields-at.ensures.table_after c.fill_struct_fields-at.ensures.value

pub returns-in_default : goal.returns-in_default
returns-in_default c =
    let a = c.args in
    storing_ends _ _ _ _ _ _ c.loop.invariant (fields-no_more a.e a.s.now a.structs.count c.loop.counter _ _ c.in_default.ensures)

pub returns : goal.returns
returns c =
    let a = c.args in
    storing_ends _ _ _ _ _ _ c.loop.invariant (fields-none a.e a.s.now a.structs.count c.loop.counter _ c.loop-test.false)
