-- `fill_struct_fields`: as `fill_names`, from a row of the table on, with records that are all there.
use Prim.Native.Nat.{◌+◌, ◌-◌, ◌*◌}
use mathlib.Core.Path.{◌≡◌}
use mathlib.Core.List.{[], ◌∷◌}
use native.Mathlib.Omega.{arith}
use Rattle.octets.specs.Helpers.{leading}
use Rattle.octets.proofs.Filling.{storing_ends, storing_ends-at, row_fits_lem, row-stored}
use Rattle.dna.specs.Catalogue.{pairs, field}
use Rattle.dna.proofs.Rows.{pair_more, pair_none}
use Rattle.dna.proofs.Shorts.{field_there}
use Rattle.dna.proofs.dna.fill_struct_fields.Goals as goal

pub put_field-next-requires : goal.put_field-next-requires
put_field-next-requires c =
    let a = c.args in
    let l = c.loop-i in
    let w = field_there a.e a.s.now (a.fields.at + 4 * l.i) (omega arith) _ _ c.field_there.ensures.0 c.field_there.ensures.1 in
    row_fits_lem _ _ _ _ _ (c.field_there.result.type_index.0 ∷ c.field_there.result.name_index.0 ∷ []) (pairs (leading (a.fields.count - (l.i + 1)) (field a.e) a.s.now (a.fields.at + 4 * l.i + 4))) _ l.invariant (pair_more (field a.e) a.s.now a.fields.count l.i _ c.loop-i-test.true _ _ _ w)

pub loop-i-preserved : goal.loop-i-preserved
loop-i-preserved c =
    let a = c.args in
    let l = c.loop-i in
    let p : a.fields.at + 4 * l.i + 4 ≡ a.fields.at + 4 * (l.i + 1) = omega arith in
    let w = field_there a.e a.s.now (a.fields.at + 4 * l.i) (omega arith) _ _ c.field_there.ensures.0 c.field_there.ensures.1 in
    rw p at (row-stored _ _ _ _ _ (c.field_there.result.type_index.0 ∷ c.field_there.result.name_index.0 ∷ []) _ _ l.invariant (pair_more (field a.e) a.s.now a.fields.count l.i _ c.loop-i-test.true _ _ _ w) _ _ c.put_field-next.ensures.table_after c.put_field-next.ensures.value)

pub returns : goal.returns
returns c =
    let w = pair_none (field c.args.e) c.args.s.now c.args.fields.count c.loop-i.i _ c.loop-i-test.false in
    record { value = storing_ends-at _ _ _ _ _ _ c.loop-i.invariant w; table_after = storing_ends _ _ _ _ _ _ c.loop-i.invariant w }
