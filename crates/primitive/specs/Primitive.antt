-- Primitive values: of 1, 2, 4 and 8 bytes, signed, unsigned and float, in both byte orders, and the names of their kinds. Bytes past the
-- width are ignored. A short slice is refusal 12.
use Rattle.std.specs.Prelude.{ℕ, ◌-◌, ◌^◌, true, false, List, [], ◌∷◌, ltb, ℤ, Float, pos, length, take}
use Rattle.std.specs.Float.{Format}
use Rattle.std.specs.Float.Ieee.{of_bits, nan_bits}
use Rattle.std.proofs.Math.IntN.{sub_ℕ}
use Rattle.octets.specs.declared.Endianness.{Endianness}
use Rattle.primitive.specs.declared.primitive.FloatRead.{FloatRead}
use Rattle.octets.specs.Number.{spelled}
use Rattle.octets.specs.Paper.{Paper}
use Rattle.octets.specs.Paper.Paper.{accepts, integer, real}
use Rattle.octets.specs.Refusals.{value_slice_too_short}

-- refusal 12 where s has fewer than `width` bytes; otherwise the number that its first `width` bytes spell, told as its kind is told
unfoldable pub value_of : ℕ → (ℕ → Paper) → Endianness → List ℕ → Paper
value_of width kind e s = elim (ltb (length s) width) [ true ↦ value_slice_too_short | false ↦ kind (spelled e (take width s)) ]

-- two's complement: n, less 2 ^ bits where the highest of its bits is set
abbrev pub twos : ℕ → ℕ → ℤ
twos bits n = elim (ltb n (2 ^ (bits - 1))) [ true ↦ pos n | false ↦ sub_ℕ n (2 ^ bits) ]

-- The kinds. A character is its byte, an unsigned number of 1 byte. A float is the one that its bits stand for; a NaN has the other case, 1, and
-- is told by its bits.
abbrev pub unsigned : ℕ → Paper
unsigned n = accepts 0 (n ∷ [])

abbrev pub signed : ℕ → ℕ → Paper
signed bits n = integer (twos bits n)

abbrev pub float : Format → ℕ → Paper
float f n = elim (nan_bits f n) [ true ↦ accepts 1 (n ∷ []) | false ↦ real (of_bits f n) ]

-- the paper of a float
abbrev pub paper_float : FloatRead Float ℕ → Paper
paper_float (FloatRead.Is x) = real x
paper_float (FloatRead.Nan n) = accepts 1 (n ∷ [])
