-- `version_bytes`: the bytes, and the version that they spell.
use mathlib.Core.Path.{◌∙◌, ap}
use Rattle.octets.specs.Cursor.{found}
use Rattle.octets.proofs.Results.{handed_on}
use Rattle.header.proofs.Headers.{version-stops, part-short, version-is}
use Rattle.header.proofs.blend.version_bytes.Goals as goal

pub returns-in_err-next : goal.returns-in_err-next
returns-in_err-next c = ap found (handed_on _ _ c.from_residual.ensures.1) ∙ version-stops c.args.s.now _ _ _ c.in_err-next.ensures

pub from_digits-requires : goal.from_digits-requires
from_digits-requires c =
    part-short c.args.s.now _ _ 4 c.requires _ c.part.ensures

pub returns : goal.returns
returns c = version-is c.args.s.now _ _ _ c.in_ok-next.ensures _ c.part.ensures _ c.from_digits.ensures
