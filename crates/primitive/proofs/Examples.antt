-- The rules at small inputs, computed.
use mathlib.Core.List.{[], ◌∷◌}
use mathlib.Core.Path.{◌≡◌, refl}
use mathlib.Core.Bool.{true, false}
use lib.Ieee.{fin, inf, binary32, binary64, of_bits, nan_bits}
use lib.IntN.{pos, negsuc}
use Rattle.octets.specs.declared.Endianness.TheVariants.{Little, Big}
use Rattle.octets.specs.Paper.Paper.{accepts, integer, real, refuses}
use Rattle.primitive.specs.Primitive.{value_of, unsigned, signed, float}

-- two bytes in either order, and a third that is ignored
both-orders : (value_of 2 unsigned Little (1 ∷ 2 ∷ 9 ∷ []) ≡ accepts 0 (513 ∷ [])) × (value_of 2 unsigned Big (1 ∷ 2 ∷ 9 ∷ []) ≡ accepts 0 (258 ∷ []))
unfolding value_of
both-orders = (refl, refl)

too_few : (value_of 4 unsigned Big (1 ∷ 2 ∷ 3 ∷ []) ≡ refuses 12 []) × (value_of 1 unsigned Little [] ≡ refuses 12 [])
unfolding value_of
too_few = (refl, refl)

-- -2, the least number of 8 bits, and the largest
signs : (value_of 2 (signed 16) Big (255 ∷ 254 ∷ []) ≡ integer (negsuc 1)) × (value_of 1 (signed 8) Little (128 ∷ []) ≡ integer (negsuc 127))
    × (value_of 1 (signed 8) Big (127 ∷ []) ≡ integer (pos 127))
unfolding value_of
signs = (refl, refl, refl)

-- 1.5 is 3 * 2 ^ -1; the zero with a sign; an infinity; the least NaN is told by its bits; 2.0 in 8 bytes
floats : (value_of 4 (float binary32) Little (0 ∷ 0 ∷ 192 ∷ 63 ∷ []) ≡ real (fin false 3 (negsuc 0)))
    × (value_of 4 (float binary32) Big (128 ∷ 0 ∷ 0 ∷ 0 ∷ []) ≡ real (fin true 0 (pos 0)))
    × (value_of 4 (float binary32) Big (255 ∷ 128 ∷ 0 ∷ 0 ∷ []) ≡ real (inf true))
    × (value_of 4 (float binary32) Big (127 ∷ 128 ∷ 0 ∷ 1 ∷ []) ≡ accepts 1 (0x7f800001 ∷ []))
    × (value_of 8 (float binary64) Big (64 ∷ 0 ∷ 0 ∷ 0 ∷ 0 ∷ 0 ∷ 0 ∷ 0 ∷ []) ≡ real (fin false 1 (pos 1)))
unfolding value_of of_bits nan_bits
floats = (refl, refl, refl, refl, refl)
