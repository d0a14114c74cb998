-- `one_of`: the first mark, or else the second.
use mathlib.Core.Path.{◌∙◌, ap}
use Rattle.octets.specs.Cursor.{found}
use Rattle.octets.proofs.Results.{handed_on}
use Rattle.header.proofs.Headers.{first-mark, second-mark, no-mark}
use Rattle.header.proofs.blend.one_of.Goals as goal

pub returns-in-Some : goal.returns-in-Some
returns-in-Some g c =
    let a = c.args in
    first-mark a.m.now a.a a.n.now a.b a.s.now _ a.c c.in-Some.next c.in-Some.ensures

pub returns-in_err-next : goal.returns-in_err-next
returns-in_err-next g c =
    let a = c.args in
    ap found (handed_on _ _ c.from_residual.ensures.1) ∙ no-mark a.m.now a.a a.n.now a.b a.s.now _ _ c.in_default.ensures _ c.in_err-next.ensures

pub returns : goal.returns
returns g c =
    let a = c.args in
    second-mark a.m.now a.a a.n.now a.b a.s.now _ _ c.in_default.ensures _ c.in_ok-next.ensures
