-- `file_length`: the sum so far and what is left make the whole.
use Prim.Native.Nat.{◌+◌}
use mathlib.Core.List.{List}
use Rattle.block.specs.declared.Row.{Row}
use mathlib.Core.Path.{◌∙◌, ap}
use native.Mathlib.Omega.{arith}
use Rattle.writable.specs.Writable.{blocks_length}
use Rattle.writable.proofs.Judging.{rows_all}
use Rattle.writable.proofs.Fitting.{header_at-most, sum_over, sum_more, sum-ends}
use Rattle.writable.proofs.writable.Rows.file_length.Goals as goal

pub overflow_add-sum : goal.overflow_add-sum
overflow_add-sum c = omega (arith, c.header_len-sum.ensures.fact, header_at-most c.args.h.format)

pub loop-row-init : goal.loop-row-init
loop-row-init c =
    let a = c.args in
    (ap (λ (l : List Row). c.header_len-sum.result + 4 + blocks_length c.block_header_len-header.result l) (rows_all a.self.table.now a.self.n), omega (arith, c.header_len-sum.ensures.fact, header_at-most a.h.format))

pub returns-in_err-checked_add : goal.returns-in_err-checked_add
returns-in_err-checked_add c =
    let a = c.args in
    let l = c.loop-row in
    let t = c.loop-row-test.true in
    let k = sum_over a.h a.self.table.now a.self.n _ _ c.header_len-sum.ensures.fact c.block_header_len-header.ensures.fact l.sum l.row l.invariant.0 t _ c.row-r.ensures in
    c.from_residual.ensures ∙ k (omega (arith, c.in_err-checked_add.ensures))

pub returns-in_err-sum : goal.returns-in_err-sum
returns-in_err-sum c =
    let a = c.args in
    let l = c.loop-row in
    let t = c.loop-row-test.true in
    let k = sum_over a.h a.self.table.now a.self.n _ _ c.header_len-sum.ensures.fact c.block_header_len-header.ensures.fact l.sum l.row l.invariant.0 t _ c.row-r.ensures in
    c.from_residual-in_err-sum.ensures ∙ k (omega (arith, c.in_ok-checked_add.ensures, c.in_err-sum.ensures))

pub loop-row-preserved : goal.loop-row-preserved
loop-row-preserved c =
    let a = c.args in
    let l = c.loop-row in
    let t = c.loop-row-test.true in
    let k = sum_more a.h a.self.table.now a.self.n _ _ c.header_len-sum.ensures.fact c.block_header_len-header.ensures.fact l.sum l.row l.invariant.0 t _ c.row-r.ensures in
    (k _ (omega (arith, c.in_ok-checked_add.ensures, c.in_ok-sum.ensures)), omega arith)

pub returns : goal.returns
returns c =
    let a = c.args in
    let l = c.loop-row in
    sum-ends a.h a.self.table.now a.self.n _ _ c.header_len-sum.ensures.fact c.block_header_len-header.ensures.fact l.sum l.row l.invariant.0 c.loop-row-test.false l.invariant.1
