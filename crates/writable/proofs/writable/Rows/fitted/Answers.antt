-- `fitted`: the header, the rows, and then the length.
use Rattle.std.specs.Prelude.{Option, None, ℕ}
use Rattle.std.specs.Option.{ok_or}
use mathlib.Core.Path.{sym, ◌∙◌, ap}
use Rattle.writable.proofs.Fitting.{no-room-header, too_large, long-counted, fitted_by}
use Rattle.writable.proofs.writable.Rows.fitted.Goals as goal

pub returns-then-not-header_fits : goal.returns-then-not-header_fits
returns-then-not-header_fits c =
    let a = c.args in
    no-room-header a.h a.self.table.now a.self.n (sym c.header_fits.ensures ∙ c.if-not-header_fits.true)

pub returns-in-Some : goal.returns-in-Some
returns-in-Some c =
    let a = c.args in
    let f = sym c.header_fits.ensures ∙ c.if-not-header_fits.false in
    fitted_by a.h a.self.table.now a.self.n f _ (sym c.in-Some.is ∙ c.first_unfit.ensures)

pub returns-in-None : goal.returns-in-None
returns-in-None c =
    let a = c.args in
    let f = sym c.header_fits.ensures ∙ c.if-not-header_fits.false in
    c.ok_or.ensures.value ∙ ap (λ (o : Option ℕ). ok_or o too_large) c.file_length.ensures ∙ long-counted _ ∙ fitted_by a.h a.self.table.now a.self.n f None (sym c.in-None.is ∙ c.first_unfit.ensures)
