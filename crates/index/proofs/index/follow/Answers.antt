-- `follow`: what is left of a chain is all of it.
use mathlib.Core.Path.{refl, sym, ◌∙◌}
use native.Mathlib.Omega.{arith}
use Rattle.index.proofs.Chains.{following_starts, following_ends, following_leaves, following_falls, following_found, following_on}
use Rattle.index.proofs.index.follow.Goals as goal

pub loop-number-init : goal.loop-number-init
loop-number-init c =
    let a = c.args in
    following_starts a.table.now a.rows a.links.now a.address a.head

pub returns-then-rows-number : goal.returns-then-rows-number
returns-then-rows-number c =
    let a = c.args in
    let l = c.loop-number in
    following_leaves a.table.now a.rows a.links.now a.address a.head l.last l.number l.invariant c.loop-number-test.true c.if-rows-number.true

pub returns-then-number-last : goal.returns-then-number-last
returns-then-number-last c =
    let a = c.args in
    let l = c.loop-number in
    following_falls a.table.now a.rows a.links.now a.address a.head l.last l.number l.invariant c.loop-number-test.true c.if-rows-number.false c.if-number-last.true

pub overflow_sub-row : goal.overflow_sub-row
overflow_sub-row c = omega (arith, c.loop-number-test.true)

pub row_matches-requires : goal.row_matches-requires
row_matches-requires c =
    omega (arith, c.loop-number-test.true, c.if-rows-number.false, c.requires.0)

pub returns-then-row_matches : goal.returns-then-row_matches
returns-then-row_matches c =
    let a = c.args in
    let l = c.loop-number in
    following_found a.table.now a.rows a.links.now a.address a.head l.last l.number l.invariant c.loop-number-test.true c.if-rows-number.false (omega (arith, c.if-number-last.false)) _ refl (sym c.row_matches.ensures ∙ c.if-row_matches.true)

pub bounds-links-row : goal.bounds-links-row
bounds-links-row c =
    omega (arith, c.loop-number-test.true, c.if-rows-number.false, c.requires.1)

pub loop-number-smaller : goal.loop-number-smaller
loop-number-smaller c =
    omega (arith, c.if-rows-number.false, c.if-number-last.false)

pub loop-number-preserved : goal.loop-number-preserved
loop-number-preserved c =
    let a = c.args in
    let l = c.loop-number in
    following_on a.table.now a.rows a.links.now a.address a.head l.last l.number l.invariant c.loop-number-test.true c.if-rows-number.false (omega (arith, c.if-number-last.false)) _ refl (sym c.row_matches.ensures ∙ c.if-row_matches.false)

pub returns : goal.returns
returns c =
    let a = c.args in
    let l = c.loop-number in
    following_ends a.table.now a.rows a.links.now a.address a.head l.last l.number l.invariant c.loop-number-test.false
