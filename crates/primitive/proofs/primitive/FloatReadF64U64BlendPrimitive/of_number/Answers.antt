-- A float of its bits, or a NaN's bits.
use lib.Ieee.{binary64}
use Rattle.primitive.proofs.Values.{nan_told, may_be_made, float-told}
use Rattle.primitive.proofs.primitive.FloatReadF64U64BlendPrimitive.of_number.Goals as goal

pub float_from_bits-result : goal.float_from_bits-result
float_from_bits-result c = may_be_made binary64 _ c.if-n-gt9218868437227405312.false

pub returns-then-n-gt9218868437227405312 : goal.returns-then-n-gt9218868437227405312
returns-then-n-gt9218868437227405312 c = nan_told binary64 _ c.if-n-gt9218868437227405312.true

pub returns-else-n-gt9218868437227405312 : goal.returns-else-n-gt9218868437227405312
returns-else-n-gt9218868437227405312 c = float-told binary64 _ c.if-n-gt9218868437227405312.false
