-- `fill_names`: the rows written so far and those of the names that are left are the rows of all names.
use Prim.Native.Nat.{◌+◌, ◌-◌}
use mathlib.Core.List.{[], ◌∷◌}
use Rattle.std.proofs.Common.{lit<}
use Rattle.octets.specs.Helpers.{leading}
use Rattle.octets.proofs.Filling.{storing_ends, row_fits_lem, row-stored}
use Rattle.dna.specs.Catalogue.{pairs, text}
use Rattle.dna.proofs.Counting.{place_read, place-stops}
use Rattle.dna.proofs.Rows.{pair_more, pair_stops, pair_none}
use Rattle.dna.proofs.dna.fill_names.Goals as goal

pub put_row-at-requires : goal.put_row-at-requires
put_row-at-requires c =
    let a = c.args in
    let l = c.loop in
    (lit< tt, row_fits_lem _ _ _ _ _ (l.here.at ∷ c.in-Ok.len ∷ []) (pairs (leading (a.names.count - (l.counter + 1)) text a.s.now c.in-Ok.next.at)) _ l.invariant (pair_more text a.s.now a.names.count l.counter _ c.loop-test.true _ _ _ (place_read a.s.now _ _ _ c.in-Ok.ensures)))

pub loop-preserved : goal.loop-preserved
loop-preserved c =
    let a = c.args in
    let l = c.loop in
    row-stored _ _ _ _ _ (l.here.at ∷ c.in-Ok.len ∷ []) _ _ l.invariant (pair_more text a.s.now a.names.count l.counter _ c.loop-test.true _ _ _ (place_read a.s.now _ _ _ c.in-Ok.ensures)) _ _ c.put_row-at.ensures.table_after c.put_row-at.ensures.value

pub returns-in_default : goal.returns-in_default
returns-in_default c =
    let a = c.args in
    storing_ends _ _ _ _ _ _ c.loop.invariant (pair_stops text a.s.now a.names.count c.loop.counter _ _ (place-stops a.s.now _ _ c.in_default.ensures))

pub returns : goal.returns
returns c = storing_ends _ _ _ _ _ _ c.loop.invariant (pair_none text c.args.s.now c.args.names.count c.loop.counter _ c.loop-test.false)
