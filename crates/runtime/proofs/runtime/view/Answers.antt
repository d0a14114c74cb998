-- `view`: the row, and its part.
use Rattle.runtime.proofs.Views.{view-no_row, view-there, view-not_there}
use Rattle.runtime.proofs.runtime.view.Goals as goal

pub returns-in-Ok : goal.returns-in-Ok
returns-in-Ok c =
    let a = c.args in
    view-there a.file.now a.table.now a.row c.if-table-row.false _ _ c.cell.ensures c.cell-2.ensures _ c.in-Ok.ensures

pub returns-in-Err : goal.returns-in-Err
returns-in-Err c =
    let a = c.args in
    view-not_there a.file.now a.table.now a.row c.if-table-row.false _ _ c.cell.ensures c.cell-2.ensures _ c.in-Err.ensures

pub returns-then-table-row : goal.returns-then-table-row
returns-then-table-row c =
    let a = c.args in
    view-no_row a.file.now a.table.now a.row c.if-table-row.true
