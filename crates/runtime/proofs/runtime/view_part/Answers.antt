-- `view_part`: the row, and its part.
use Rattle.runtime.proofs.Views.{part-no_row, part-there}
use Rattle.runtime.proofs.runtime.view_part.Goals as goal

pub returns-then-row-table : goal.returns-then-row-table
returns-then-row-table c =
    let a = c.args in
    part-there a.file.now a.table.now a.row c.if-row-table.true _ _ c.cell.ensures c.cell-then-row-table.ensures _ c.part.ensures

pub returns-else-row-table : goal.returns-else-row-table
returns-else-row-table c =
    let a = c.args in
    part-no_row a.file.now a.table.now a.row c.if-row-table.false
