-- `blend_view`: the payload that a row tells of, or refusal 13.
use mathlib.Core.Path.{◌∙◌, ap}
use Rattle.octets.specs.Paper.{Paper}
use Rattle.block.specs.Rows.{Column, cell}
use Rattle.runtime.proofs.Views.{view-no_row}
use Rattle.exports.specs.Exports.{view_out}
use Rattle.exports.proofs.blend_view.Goals as goal

pub returns-then-table-row : goal.returns-then-table-row
returns-then-table-row c =
    let a = c.args in
    c.view_refused.ensures ∙ (ap (λ (p : Paper). view_out p (cell a.table.now a.row Column.payload) (cell a.table.now a.row Column.len)) (view-no_row a.file.now a.table.now a.row c.if-table-row.true))
