-- `get_ptr`: what is left of the search from a row on is all of it.
use Rattle.runtime.proofs.Views.{lookup_short, lookup_null, lookup_starts, lookup_found, lookup_on, lookup_missing}
use Rattle.runtime.proofs.runtime.get_ptr.Goals as goal

pub returns-then-table-rows : goal.returns-then-table-rows
returns-then-table-rows c =
    let a = c.args in
    lookup_short a.table.now a.rows a.address c.if-table-rows.true

pub returns-then-address-eq0 : goal.returns-then-address-eq0
returns-then-address-eq0 c =
    let a = c.args in
    lookup_null a.table.now a.rows a.address c.if-table-rows.false c.if-address-eq0.true

pub loop-row-init : goal.loop-row-init
loop-row-init c =
    let a = c.args in
    lookup_starts a.table.now a.rows a.address c.if-table-rows.false c.if-address-eq0.false

pub returns-then-matches : goal.returns-then-matches
returns-then-matches c =
    let a = c.args in
    let l = c.loop-row in
    lookup_found a.table.now a.rows a.address l.row l.invariant c.loop-row-test.true _ _ _ c.matches.ensures c.cell-code.ensures c.cell.ensures c.if-matches.true

pub loop-row-preserved : goal.loop-row-preserved
loop-row-preserved c =
    let a = c.args in
    let l = c.loop-row in
    lookup_on a.table.now a.rows a.address l.row l.invariant c.loop-row-test.true _ _ _ c.matches.ensures c.cell-code.ensures c.cell.ensures c.if-matches.false

pub returns : goal.returns
returns c =
    let a = c.args in
    lookup_missing a.table.now a.rows a.address c.loop-row.row c.loop-row.invariant c.loop-row-test.false
