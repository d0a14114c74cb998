-- `digits` reads decimal digits.
use mathlib.Core.Path.{sym, ◌∙◌, ap}
use Rattle.octets.proofs.Results.{handed_on}
use Rattle.field.specs.Declarators.{at_most}
use Rattle.field.specs.Helpers.{decimal_of}
use Rattle.field.proofs.Decimals.{no-digit_at, digit_at, no_more}
use Rattle.field.proofs.field.digits.Goals as goal

pub returns-in_err-n : goal.returns-in_err-n
returns-in_err-n c =
    let s = c.args.part.now in
    let l = c.loop-b in
    let none = sym c.with_digit.ensures ∙ c.in_err-n.ensures.ok_part in
    handed_on _ _ c.from_residual.ensures.1 ∙ (rw c.in_err-n.ensures.ok_part at c.in_err-n.ensures.value)
    ∙ ap decimal_of (no-digit_at l.n s l.b-index c.loop-b-test.true none ∙ sym l.invariant.1)

pub loop-b-preserved : goal.loop-b-preserved
loop-b-preserved c =
    let s = c.args.part.now in
    let l = c.loop-b in
    let w = digit_at l.n s l.b-index _ c.loop-b-test.true (sym c.with_digit.ensures ∙ c.in_ok-n.ensures.ok_part) in
    (w.0, l.invariant.1 ∙ ap at_most w.1)

pub returns : goal.returns
returns c =
    let s = c.args.part.now in
    let l = c.loop-b in
    ap decimal_of (no_more l.n s l.b-index c.loop-b-test.false l.invariant.0 ∙ sym l.invariant.1)
