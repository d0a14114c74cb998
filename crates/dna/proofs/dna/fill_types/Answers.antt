-- `fill_types`: as `fill_names`, with strings and sizes read side by side.
use Prim.Native.Nat.{◌+◌, ◌-◌}
use mathlib.Core.List.{[], ◌∷◌}
use mathlib.Core.Path.{sym}
use Rattle.std.proofs.Common.{lit<}
use Rattle.octets.specs.Helpers.{leading}
use Rattle.octets.proofs.Filling.{storing_ends, row_fits_lem, row-stored}
use Rattle.dna.specs.Catalogue.{type_rows, text, size}
use Rattle.dna.proofs.Counting.{place_read, place-stops}
use Rattle.dna.proofs.Rows.{type_more, type_no-place, type_no-size, type_none}
use Rattle.dna.proofs.dna.fill_types.Goals as goal

pub put_row-at-requires : goal.put_row-at-requires
put_row-at-requires c =
    let a = c.args in
    let l = c.loop in
    (lit< tt, row_fits_lem _ _ _ _ _ (l.here.at ∷ c.in-Ok.len ∷ c.in-Ok-number.size ∷ []) (type_rows (leading (a.types.count - (l.counter + 1)) text a.s.now c.in-Ok.next.at) (leading (a.types.count - (l.counter + 1)) (size a.e) a.s.now c.in-Ok-number.after.at)) _ l.invariant (type_more a.e a.s.now a.types.count l.counter _ _ c.loop-test.true _ _ _ _ _ (place_read a.s.now _ _ _ c.in-Ok.ensures) (sym c.in-Ok-number.ensures)))

pub loop-preserved : goal.loop-preserved
loop-preserved c =
    let a = c.args in
    let l = c.loop in
    row-stored _ _ _ _ _ (l.here.at ∷ c.in-Ok.len ∷ c.in-Ok-number.size ∷ []) _ _ l.invariant (type_more a.e a.s.now a.types.count l.counter _ _ c.loop-test.true _ _ _ _ _ (place_read a.s.now _ _ _ c.in-Ok.ensures) (sym c.in-Ok-number.ensures)) _ _ c.put_row-at.ensures.table_after c.put_row-at.ensures.value

pub returns-in_default : goal.returns-in_default
returns-in_default c =
    let a = c.args in
    storing_ends _ _ _ _ _ _ c.loop.invariant (type_no-place a.e a.s.now a.types.count c.loop.counter _ _ _ (place-stops a.s.now _ _ c.in_default.ensures))

pub returns-in_default-number : goal.returns-in_default-number
returns-in_default-number c =
    let a = c.args in
    storing_ends _ _ _ _ _ _ c.loop.invariant (type_no-size a.e a.s.now a.types.count c.loop.counter _ _ _ (sym c.in_default-number.ensures))

pub returns : goal.returns
returns c = storing_ends _ _ _ _ _ _ c.loop.invariant (type_none c.args.e c.args.s.now c.args.types.count c.loop.counter _ _ c.loop-test.false)
