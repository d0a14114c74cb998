-- `skip` moves past n bytes where they are there.
use mathlib.Core.Path.{sym}
use Rattle.octets.proofs.Reading.{skipped, skip-out}
use Rattle.octets.proofs.Results.{handed_on}
use Rattle.octets.proofs.cursor.Cursor.skip.Goals as goal

pub returns-in_err-end : goal.returns-in_err-end
returns-in_err-end c = rw (handed_on _ _ c.from_residual.ensures.1, c.in_err-end.ensures.0) (sym (skip-out _ _ _ _ c.in_err-end.ensures.1))

pub returns : goal.returns
returns c =
    let h = c.in_ok-end.ensures in
    rw h.0 (skipped _ _ _ h.1)
