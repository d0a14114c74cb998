-- `chain_rows`: from the last row to the first, each in front of its chain.
use mathlib.Core.Path.{◌≡◌}
use native.Mathlib.Omega.{arith}
use Rattle.index.proofs.Building.{chaining_starts, chaining_more}
use Rattle.index.proofs.index.chain_rows.Goals as goal

pub loop-row-init : goal.loop-row-init
loop-row-init c =
    let a = c.args in
    chaining_starts a.table.now a.rows a.buckets a.heads.now a.links.now c.requires.by_index

pub loop-row-preserved : goal.loop-row-preserved
loop-row-preserved c =
    let a = c.args in
    let l = c.loop-row in
    let m = l.auto.row in
    chaining_more a.table.now a.rows a.buckets a.heads.now a.links.now _ _ (omega (arith, c.loop-row-test.true)) (omega (arith, c.loop-row-test.true, m)) _ _ l.invariant _ c.bucket_of-b.ensures.0 (omega (arith, c.bucket_of-b.ensures.1, c.requires.rows_in_bounds)) (omega (arith, c.requires.rows_in_bounds)) c.bucket_of-b.ensures.1

pub returns : goal.returns
returns c =
    let l = c.loop-row in
    let e : l.row ≡ 0 = omega (arith, c.loop-row-test.false) in
    rw e at l.invariant
