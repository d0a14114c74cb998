-- `new`: the unchecked bytes, the pointer mark, and the rest.
use mathlib.Core.Path.{◌∙◌, ap}
use Rattle.octets.specs.Cursor.{found}
use Rattle.octets.proofs.Results.{handed_on}
use Rattle.header.proofs.Headers.{new-no-bytes, new-no-mark, new-cut, new-made}
use Rattle.header.proofs.blend.new.Goals as goal

pub returns-in_err-mark : goal.returns-in_err-mark
returns-in_err-mark c = ap found (handed_on _ _ c.from_residual.ensures.1) ∙ new-no-bytes c.args.s.now _ _ c.in_err-mark.ensures

pub returns-in_err-size : goal.returns-in_err-size
returns-in_err-size c =
    ap found (handed_on _ _ c.from_residual-in_err-size.ensures.1) ∙ new-no-mark c.args.s.now _ _ c.in_ok-mark.ensures _ c.in_err-size.ensures

pub returns-in_err-last : goal.returns-in_err-last
returns-in_err-last c =
    ap found (handed_on _ _ c.from_residual-in_err-last.ensures.1) ∙ new-cut c.args.s.now _ _ c.in_ok-mark.ensures _ _ c.in_ok-size.ensures _ c.in_err-last.ensures

pub returns : goal.returns
returns c = new-made c.args.s.now _ _ c.in_ok-mark.ensures _ _ c.in_ok-size.ensures _ c.in_ok-last.ensures _ c.ordered.ensures
