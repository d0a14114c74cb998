-- `bytes_needed`: the row count, the rows, and then the form.
use Rattle.std.specs.Prelude.{Ok}
use mathlib.Core.Path.{sym, ◌∙◌, ap}
use Rattle.octets.proofs.Results.{handed_on}
use Rattle.writable.proofs.Answers.{needed_short, needed_stops, needed_other, needed_dna}
use Rattle.writable.proofs.writable.bytes_needed.Goals as goal

pub returns-then-table-rows : goal.returns-then-table-rows
returns-then-table-rows c =
    let a = c.args in
    needed_short a.h a.table.now a.rows a.source.now c.if-table-rows.true

pub returns-in_err-judged : goal.returns-in_err-judged
returns-in_err-judged c =
    let a = c.args in
    handed_on _ _ c.from_residual.ensures.1 ∙ needed_stops a.h a.table.now a.rows a.source.now c.if-table-rows.false _ c.in_err-judged.ensures

pub returns-in-None : goal.returns-in-None
returns-in-None c =
    let a = c.args in
    needed_other a.h a.table.now a.rows a.source.now c.if-table-rows.false (ap Ok (sym c.in-None.is) ∙ c.in_ok-judged.ensures)

pub returns-in-Some : goal.returns-in-Some
returns-in-Some c =
    let a = c.args in
    needed_dna a.h a.table.now a.rows a.source.now c.if-table-rows.false _ (ap Ok (sym c.in-Some.is) ∙ c.in_ok-judged.ensures) _ c.fitted.ensures
