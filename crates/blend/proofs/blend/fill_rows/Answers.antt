-- `fill_rows`: a row a turn, up to the last.
use Prim.Native.Nat.{◌+◌, ◌-◌, ◌<◌}
use mathlib.Core.Path.{◌≡◌}
use native.Mathlib.Omega.{arith}
use Rattle.octets.proofs.Filling.{storing_from-front, storing_ends, row_fits_lem, row-stored}
use Rattle.block.specs.Rows.{row_numbers}
use Rattle.blend.proofs.Chains.{rows_more, rows_none}
use Rattle.blend.proofs.There.{next_fits, next-is}
use Rattle.blend.proofs.blend.fill_rows.Goals as goal

pub loop-init : goal.loop-init
loop-init c =
    let k : c.args.n - 0 ≡ c.args.n = omega arith in
    rw k (storing_from-front _ _ c.requires.from_in_bounds, c.requires.from_len)

pub overflow_add-payload : goal.overflow_add-payload
overflow_add-payload c =
    let a = c.args in
    omega (arith, next_fits a.h a.s.now _ _ (omega (arith, c.loop-test.true)) c.loop.invariant.1 _ c.block_header_len-len.ensures.fact, c.well_formed)

pub slice_bounds-header_in-end : goal.slice_bounds-header_in-end
slice_bounds-header_in-end c =
    let a = c.args in
    omega (arith, next_fits a.h a.s.now _ _ (omega (arith, c.loop-test.true)) c.loop.invariant.1 _ c.block_header_len-len.ensures.fact)

pub put_row-i-requires : goal.put_row-i-requires
put_row-i-requires c =
    let a = c.args in
    let l = c.loop in
    let t : 0 < a.n - l.counter = omega (arith, c.loop-test.true) in
    let w = next-is a.h a.s.now _ _ t l.invariant.1 _ c.block_header_len-len.ensures.fact _ c.header_in-b.ensures _ c.row_of.ensures in
    row_fits_lem _ _ _ _ _ (row_numbers c.row_of.result) _ _ l.invariant.0 (rows_more a.h a.s.now _ _ t _ _ w.row)

pub overflow_add-at : goal.overflow_add-at
overflow_add-at c =
    let a = c.args in
    let l = c.loop in
    let t : 0 < a.n - l.counter = omega (arith, c.loop-test.true) in
    let w = next-is a.h a.s.now _ _ t l.invariant.1 _ c.block_header_len-len.ensures.fact _ c.header_in-b.ensures _ c.row_of.ensures in
    omega (arith, w.inside, c.well_formed)

pub loop-preserved : goal.loop-preserved
loop-preserved c =
    let a = c.args in
    let l = c.loop in
    let t : 0 < a.n - l.counter = omega (arith, c.loop-test.true) in
    let w = next-is a.h a.s.now _ _ t l.invariant.1 _ c.block_header_len-len.ensures.fact _ c.header_in-b.ensures _ c.row_of.ensures in
    let k : a.n - (l.counter + 1) ≡ a.n - l.counter - 1 = omega arith in
    rw k (row-stored _ _ _ _ _ (row_numbers c.row_of.result) _ _ l.invariant.0 (rows_more a.h a.s.now _ _ t _ _ w.row) _ _ c.put_row-i.ensures.table_after c.put_row-i.ensures.value, w.rest)

pub returns : goal.returns
returns c =
    let a = c.args in
    storing_ends _ _ _ _ _ _ c.loop.invariant.0 (rows_none a.h a.s.now _ _ (omega (arith, c.loop-test.false)))
