-- `before` counts on from a place, eight steps a turn. The invariant: there was none so far, so the count goes on from here.
use native.Mathlib.Omega.{arith}
use borrow.Author.Rules.{rules}
use Rattle.octets.proofs.Marks.{place_here, place-past, before-le}
use Rattle.octets.proofs.Reading.{to_the_end}
use Rattle.octets.proofs.cursor.before.Goals as goal

pub loop-i-init : goal.loop-i-init
loop-i-init c = (search rules, omega arith)

pub returns-then-s-i : goal.returns-then-s-i
returns-then-s-i c =
    let a = c.args in
    let l = c.loop-i in
    let h = c.loop-i-test.true in
    place_here a.c a.s.now _ l.i l.invariant.1 0 (omega arith) tt c.if-s-i.true

pub returns-then-s-i-2 : goal.returns-then-s-i-2
returns-then-s-i-2 c =
    let a = c.args in
    let l = c.loop-i in
    let h = c.loop-i-test.true in
    place_here a.c a.s.now _ l.i l.invariant.1 1 (omega arith) (tt, c.if-s-i.false) c.if-s-i-2.true

pub returns-then-s-i-3 : goal.returns-then-s-i-3
returns-then-s-i-3 c =
    let a = c.args in
    let l = c.loop-i in
    let h = c.loop-i-test.true in
    place_here a.c a.s.now _ l.i l.invariant.1 2 (omega arith) ((tt, c.if-s-i.false), c.if-s-i-2.false) c.if-s-i-3.true

pub returns-then-s-i-4 : goal.returns-then-s-i-4
returns-then-s-i-4 c =
    let a = c.args in
    let l = c.loop-i in
    let h = c.loop-i-test.true in
    place_here a.c a.s.now _ l.i l.invariant.1 3 (omega arith) (((tt, c.if-s-i.false), c.if-s-i-2.false), c.if-s-i-3.false) c.if-s-i-4.true

pub returns-then-s-i-5 : goal.returns-then-s-i-5
returns-then-s-i-5 c =
    let a = c.args in
    let l = c.loop-i in
    let h = c.loop-i-test.true in
    place_here a.c a.s.now _ l.i l.invariant.1 4 (omega arith) ((((tt, c.if-s-i.false), c.if-s-i-2.false), c.if-s-i-3.false), c.if-s-i-4.false) c.if-s-i-5.true

pub returns-then-s-i-6 : goal.returns-then-s-i-6
returns-then-s-i-6 c =
    let a = c.args in
    let l = c.loop-i in
    let h = c.loop-i-test.true in
    place_here a.c a.s.now _ l.i l.invariant.1 5 (omega arith) (((((tt, c.if-s-i.false), c.if-s-i-2.false), c.if-s-i-3.false), c.if-s-i-4.false), c.if-s-i-5.false) c.if-s-i-6.true

pub returns-then-s-i-7 : goal.returns-then-s-i-7
returns-then-s-i-7 c =
    let a = c.args in
    let l = c.loop-i in
    let h = c.loop-i-test.true in
    place_here a.c a.s.now _ l.i l.invariant.1 6 (omega arith) ((((((tt, c.if-s-i.false), c.if-s-i-2.false), c.if-s-i-3.false), c.if-s-i-4.false), c.if-s-i-5.false), c.if-s-i-6.false) c.if-s-i-7.true

pub returns-then-s-i-8 : goal.returns-then-s-i-8
returns-then-s-i-8 c =
    let a = c.args in
    let l = c.loop-i in
    let h = c.loop-i-test.true in
    place_here a.c a.s.now _ l.i l.invariant.1 7 (omega arith) (((((((tt, c.if-s-i.false), c.if-s-i-2.false), c.if-s-i-3.false), c.if-s-i-4.false), c.if-s-i-5.false), c.if-s-i-6.false), c.if-s-i-7.false) c.if-s-i-8.true

pub loop-i-preserved : goal.loop-i-preserved
loop-i-preserved c =
    let a = c.args in
    let l = c.loop-i in
    let h = c.loop-i-test.true in
    (omega arith, place-past a.c a.s.now _ l.i l.invariant.1 8 (omega arith) ((((((((tt, c.if-s-i.false), c.if-s-i-2.false), c.if-s-i-3.false), c.if-s-i-4.false), c.if-s-i-5.false), c.if-s-i-6.false), c.if-s-i-7.false), c.if-s-i-8.false))

pub overflow_add-result-2 : goal.overflow_add-result-2
overflow_add-result-2 c =
    let a = c.args in
    let l = c.loop-i in
    omega (arith, l.invariant.1, before-le a.c a.s.now, rw (to_the_end a.s.now l.i) at c.before_by_bytes.ensures, c.well_formed)

pub returns : goal.returns
returns c =
    let l = c.loop-i in
    omega (arith, l.invariant.1, rw (to_the_end c.args.s.now l.i) at c.before_by_bytes.ensures)
