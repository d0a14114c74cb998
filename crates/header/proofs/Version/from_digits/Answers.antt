-- `from_digits`: what was read so far goes on with the bytes that are left.
use mathlib.Core.Path.{refl, ◌∙◌}
use Rattle.header.proofs.Versions.{decimal_more, decimal-last, bounded}
use Rattle.header.proofs.Version.from_digits.Goals as goal

pub loop-d-preserved : goal.loop-d-preserved
loop-d-preserved c =
    let l = c.loop-d in
    (l.invariant.0 ∙ decimal_more l.combined c.args.digits.now l.d-index _ c.loop-d-test.true c.with_digit-combined.ensures, bounded l.d-index _ _ _ c.with_digit-combined.ensures l.invariant.1)

pub returns : goal.returns
returns c = rw (c.loop-d.invariant.0 ∙ decimal-last c.loop-d.combined c.args.digits.now c.loop-d.d-index c.loop-d-test.false) refl
