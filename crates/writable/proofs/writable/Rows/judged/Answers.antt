-- `judged`: what is left of the rows decides as all of them do.
use Rattle.std.specs.Prelude.{None}
use mathlib.Core.List.{List}
use Rattle.block.specs.declared.Row.{Row}
use mathlib.Core.Path.{sym, ◌∙◌, ap}
use Rattle.writable.specs.Writable.{all_judged}
use Rattle.writable.proofs.Judging.{rows_all, judging_stops, judging_goes, judging_ends}
use Rattle.octets.proofs.Results.{handed_on}
use Rattle.writable.proofs.writable.Rows.judged.Goals as goal

pub loop-row-init : goal.loop-row-init
loop-row-init c =
    let a = c.args in
    ap (λ (l : List Row). all_judged a.order a.source.now l None) (rows_all a.self.table.now a.self.n)

pub returns-in_err-last : goal.returns-in_err-last
returns-in_err-last c =
    let a = c.args in
    let l = c.loop-row in
    let t = c.loop-row-test.true in
    handed_on _ _ c.from_residual.ensures.1 ∙ judging_stops a.order a.source.now a.self.table.now a.self.n l.row l.last t _ c.row.ensures _ c.in_err-last.ensures
    ∙ sym l.invariant

pub loop-row-preserved : goal.loop-row-preserved
loop-row-preserved c =
    let a = c.args in
    let l = c.loop-row in
    let t = c.loop-row-test.true in
    let on = judging_goes a.order a.source.now a.self.table.now a.self.n l.row l.last t _ c.row.ensures _ c.in_ok-last.ensures in
    l.invariant ∙ on

pub returns : goal.returns
returns c =
    let a = c.args in
    let l = c.loop-row in
    judging_ends a.order a.source.now a.self.table.now a.self.n l.row l.last c.loop-row-test.false ∙ sym l.invariant
