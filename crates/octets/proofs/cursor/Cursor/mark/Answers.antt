-- `mark` goes past a mark, and tells a short read from a wrong mark.
use mathlib.Core.Path.{sym, ◌∙◌}
use Rattle.octets.proofs.Reading.{tagged, strayed, bytes-out}
use Rattle.octets.proofs.Results.{handed_on}
use Rattle.octets.proofs.cursor.Cursor.mark.Goals as goal

pub returns-in_err-end : goal.returns-in_err-end
returns-in_err-end c =
    rw (handed_on _ _ c.from_residual.ensures.1, c.in_err-end.ensures.0) (sym (bytes-out _ _ c.args.s.now _ c.in_err-end.ensures.1))

pub returns-then-stands_at : goal.returns-then-stands_at
returns-then-stands_at c =
    let a = c.args in
    let h = c.in_ok-end.ensures in
    rw h.0 (tagged a.m.now a.s.now _ h.1 (sym c.stands_at.ensures ∙ c.if-stands_at.true))

pub returns-else-stands_at : goal.returns-else-stands_at
returns-else-stands_at c =
    let a = c.args in
    strayed a.m.now a.s.now _ c.in_ok-end.ensures.1 (sym c.stands_at.ensures ∙ c.if-stands_at.false)
