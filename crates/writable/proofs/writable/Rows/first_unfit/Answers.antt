-- `first_unfit`: the first among the rows that are left is the first of all.
use mathlib.Core.List.{List}
use Rattle.block.specs.declared.Row.{Row}
use mathlib.Core.Path.{sym, ◌∙◌, ap}
use Rattle.writable.specs.Writable.{first_unfit}
use Rattle.writable.proofs.Judging.{rows_all}
use Rattle.writable.proofs.Fitting.{unfit-here, unfit_later, first-here, first-none}
use Rattle.writable.proofs.writable.Rows.first_unfit.Goals as goal

pub loop-row-init : goal.loop-row-init
loop-row-init c =
    let a = c.args in
    ap (λ (l : List Row). first_unfit a.h l 0) (rows_all a.self.table.now a.self.n)

pub returns-then-not-row_fits : goal.returns-then-not-row_fits
returns-then-not-row_fits c =
    let a = c.args in
    let l = c.loop-row in
    let t = c.loop-row-test.true in
    first-here a.h a.self.table.now a.self.n l.row l.invariant t (unfit-here a.h a.self.table.now a.self.n l.row t _ c.row.ensures (sym c.row_fits.ensures ∙ c.if-not-row_fits.true))

pub loop-row-preserved : goal.loop-row-preserved
loop-row-preserved c =
    let a = c.args in
    let l = c.loop-row in
    let t = c.loop-row-test.true in
    let on = unfit_later a.h a.self.table.now a.self.n l.row t _ c.row.ensures (sym c.row_fits.ensures ∙ c.if-not-row_fits.false) in
    l.invariant ∙ on

pub returns : goal.returns
returns c =
    let a = c.args in
    let l = c.loop-row in
    first-none a.h a.self.table.now a.self.n l.row l.invariant c.loop-row-test.false
