-- Header written: the bytes that tell a header, part by part as `parts` has them. proofs/HeadersOut.antt: where the header has room in its edition, its tree reads it
-- back; and a Legacy header whose version bytes are digits is written as it was.
use Prim.Native.Char.{code}
use Rattle.std.specs.Prelude.{ℕ, zero, suc, ◌+◌, ◌*◌, ◌/◌, ◌%◌, Bool, true, ◌&&◌, List, [], ◌∷◌, ◌++◌, ◌≡◌, leb, eqb, take, drop}
use Rattle.octets.specs.declared.Endianness.{Endianness}
use Rattle.octets.specs.declared.Endianness.TheVariants.{Little, Big}
use Rattle.octets.specs.declared.PointerSize.{PointerSize}
use Rattle.octets.specs.declared.PointerSize.TheVariants.{Bits32, Bits64}
use Rattle.octets.specs.Ascii.{ascii, is_digit}
use Rattle.octets.specs.PointerSize.{pointer_bytes}
use Rattle.header.specs.declared.FileFormat.{FileFormat}
use Rattle.header.specs.declared.FileFormat.TheVariants.{Legacy, New}
use Rattle.header.specs.declared.Version.{Version}
use Rattle.header.specs.declared.Header.{Header}
use Rattle.header.specs.Header.{Part, parts, magic, order}
use Rattle.header.specs.Header.Part.{pointer_size, byte_order, unchecked, version}

-- a number in decimal, with so many digits, the most significant first; what they have no room for is not told
abbrev pub decimals : ℕ → ℕ → List ℕ
decimals zero n = []
decimals (suc w) n = decimals w (n / 10) ++ ((code "0" + n % 10) ∷ [])

-- each of these bytes is a decimal digit
abbrev pub Digits : List ℕ → Type 0
Digits [] = Unit {0}
Digits (b ∷ bs) = (is_digit b ≡ true) × Digits bs

-- the two marks
abbrev pub pointer_mark_of : PointerSize → List ℕ
pointer_mark_of Bits32 = ascii "_"
pointer_mark_of Bits64 = ascii "-"

abbrev pub order_mark_of : Endianness → List ℕ
order_mark_of Little = ascii "v"
order_mark_of Big = ascii "V"

-- a version as one number
abbrev pub version_number : Version → ℕ
version_number v = v.major * 100 + v.minor

-- The bytes of a header's parts, one after another; `u` are those of the unchecked parts, of which each takes its own from the front.
abbrev pub parts_out : List Part → Header → List ℕ → List ℕ
parts_out [] h u = []
parts_out (pointer_size ∷ ps) h u = pointer_mark_of h.pointer_size ++ parts_out ps h u
parts_out (byte_order ∷ ps) h u = order_mark_of h.endianness ++ parts_out ps h u
parts_out (unchecked n ∷ ps) h u = take n u ++ parts_out ps h (drop n u)
parts_out (version n ∷ ps) h u = decimals n (version_number h.version) ++ parts_out ps h u

-- New is written with the header size "17" and the format version "01".
abbrev pub unchecked_out : FileFormat → List ℕ
unchecked_out Legacy = []
unchecked_out New = ascii "17" ++ ascii "01"

unfoldable pub header_out : Header → List ℕ
header_out h = magic ++ parts_out (parts h.format) h (unchecked_out h.format)

-- What an edition has room for: minor to 99, major to 9 in Legacy and to 99 in New; and New is written with 64-bit pointers and in the little order alone.
abbrev pub version_fits : ℕ → Version → Bool
version_fits most v = leb v.major most && leb v.minor 99

abbrev pub marks_fit : PointerSize → Endianness → Bool
marks_fit p e = eqb (pointer_bytes p) 8 && eqb (order e) 0

abbrev pub form_fits : FileFormat → Header → Bool
form_fits Legacy h = version_fits 9 h.version
form_fits New h = version_fits 99 h.version && marks_fit h.pointer_size h.endianness

abbrev pub header_fits : Header → Bool
header_fits h = form_fits h.format h
