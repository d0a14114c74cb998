-- What `parse_f64` ensures has no NaN where the bits of a float are asked.
use Rattle.std.proofs.Common.{sym, ap, ◌∙◌}
use lib.Ieee.{binary64}
use Rattle.primitive.specs.Primitive.{paper_float}
use Rattle.vectors.proofs.Floats.{no_nan}
use Rattle.vectors.proofs.values.f64_bits.Goals as goal

pub float_to_bits-result : goal.float_to_bits-result
float_to_bits-result c = no_nan binary64 _ 8 _ _ (ap paper_float (sym c.in-Is.is) ∙ c.in_ok-x.ensures)
