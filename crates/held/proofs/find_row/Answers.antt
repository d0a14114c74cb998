-- `find_row`: what is left of the search from a row on is all of it.
use Rattle.std.proofs.Common.{sym, ◌∙◌}
use Rattle.held.proofs.Seek as law
use Rattle.held.proofs.find_row.Goals as goal

pub returns-then-row_is : goal.returns-then-row_is
returns-then-row_is c = law.hit _ _ c.loop-i.i c.loop-i-test.true (sym c.row_is.ensures ∙ c.if-row_is.true) c.loop-i.invariant

pub loop-i-preserved : goal.loop-i-preserved
loop-i-preserved c = law.miss _ _ c.loop-i.i c.loop-i-test.true (sym c.row_is.ensures ∙ c.if-row_is.false) c.loop-i.invariant

pub returns : goal.returns
returns c = law.over _ _ c.loop-i.i c.loop-i-test.false c.loop-i.invariant
