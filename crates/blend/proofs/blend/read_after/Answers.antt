-- `read_after`: the first pass, the room, and the second pass.
use Rattle.blend.specs.Chain.{chain_from}
use Rattle.blend.proofs.Answers.{after_read, rows_fit, rows_all, rows_written}
use Rattle.blend.proofs.blend.read_after.Goals as goal

pub fill_rows-requires : goal.fill_rows-requires
fill_rows-requires c =
    let a = c.args in
    let e = c.in_ok-c.ensures in
    record { from_in_bounds = rows_fit a.h a.file.now a.from _ e a.table.now c.if-table-c.false; from_len = rows_all a.h a.file.now a.from _ e }

pub returns : goal.returns
returns c =
    let a = c.args in
    let e = c.in_ok-c.ensures in
    record { result_value = after_read a.h (chain_from a.h a.file.now a.from) _ _ e c.if-table-c.false; table_after = rows_written a.h a.file.now a.from _ e a.table.now _ c.if-table-c.false c.fill_rows.ensures }
