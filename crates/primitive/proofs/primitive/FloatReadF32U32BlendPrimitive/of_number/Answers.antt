-- A float of its bits, or a NaN's bits.
use lib.Ieee.{binary32}
use Rattle.primitive.proofs.Values.{nan_told, may_be_made, float-told}
use Rattle.primitive.proofs.primitive.FloatReadF32U32BlendPrimitive.of_number.Goals as goal

pub float_from_bits-result : goal.float_from_bits-result
float_from_bits-result c = may_be_made binary32 _ c.if-bits-gt2139095040.false

pub returns-then-bits-gt2139095040 : goal.returns-then-bits-gt2139095040
returns-then-bits-gt2139095040 c = nan_told binary32 _ c.if-bits-gt2139095040.true

pub returns-else-bits-gt2139095040 : goal.returns-else-bits-gt2139095040
returns-else-bits-gt2139095040 c = float-told binary32 _ c.if-bits-gt2139095040.false
