-- `number` reads a number of a width and an order at the place.
use mathlib.Core.Path.{sym}
use Rattle.octets.proofs.Reading.{numbered_in, numbered-out}
use Rattle.octets.proofs.Results.{handed_on}
use Rattle.octets.proofs.cursor.Cursor.number.Goals as goal

pub returns-in_err-end : goal.returns-in_err-end
returns-in_err-end c =
    let a = c.args in
    rw (handed_on _ _ c.from_residual.ensures.1, c.in_err-end.ensures.0) (numbered-out a.order a.s.now _ _ _ c.bytes_num.ensures c.in_err-end.ensures.1)

pub returns : goal.returns
returns c =
    let a = c.args in
    let h = c.in_ok-end.ensures in
    rw h.0 (numbered_in a.order a.s.now _ _ _ c.bytes_num.ensures h.1 _ (rw (sym h.0) c.number.ensures))
