-- `fill_structs`: as `fill_names`, with the fields counted so far as the next first row.
use Prim.Native.Nat.{◌+◌, ◌-◌}
use mathlib.Core.List.{[], ◌∷◌}
use native.Mathlib.Omega.{arith}
use Rattle.std.proofs.Common.{lit<}
use Rattle.octets.specs.Helpers.{leading}
use Rattle.octets.proofs.Filling.{storing_ends, row_fits_lem, row-stored}
use Rattle.dna.specs.Catalogue.{struct_rows, struct}
use Rattle.dna.proofs.Rows.{struct_more, struct-no_more, struct-none}
use Rattle.dna.proofs.dna.fill_structs.Goals as goal

pub put_row-at-requires : goal.put_row-at-requires
put_row-at-requires c =
    let a = c.args in
    let l = c.loop in
    (lit< tt, row_fits_lem _ _ _ _ _ (c.in-Ok.kind.0 ∷ l.row ∷ c.in-Ok.count ∷ []) (struct_rows (l.row + c.in-Ok.count) (leading (a.structs.count - (l.counter + 1)) (struct a.e) a.s.now c.in-Ok.next.at)) _ l.invariant.0 (struct_more a.e a.s.now a.structs.count l.counter _ c.loop-test.true _ _ _ _ c.in-Ok.ensures.0))

pub loop-preserved : goal.loop-preserved
loop-preserved c =
    let a = c.args in
    let l = c.loop in
    let w = c.in-Ok.ensures in
    (row-stored _ _ _ _ _ (c.in-Ok.kind.0 ∷ l.row ∷ c.in-Ok.count ∷ []) _ _ l.invariant.0 (struct_more a.e a.s.now a.structs.count l.counter _ c.loop-test.true _ _ _ _ w.0) _ _ c.put_row-at.ensures.table_after c.put_row-at.ensures.value, omega (arith, w.1, l.invariant.1))

pub returns-in_default : goal.returns-in_default
returns-in_default c =
    let a = c.args in
    storing_ends _ _ _ _ _ _ c.loop.invariant.0 (struct-no_more a.e a.s.now a.structs.count c.loop.counter _ _ _ c.in_default.ensures)

pub returns : goal.returns
returns c =
    let a = c.args in
    storing_ends _ _ _ _ _ _ c.loop.invariant.0 (struct-none a.e a.s.now a.structs.count c.loop.counter _ _ c.loop-test.false)
