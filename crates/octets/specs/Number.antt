-- Numbers as bytes spell them, in either order, the bytes that spell a number, and the two reads that go by what the bytes are: a number, and a mark.
use Rattle.std.specs.Prelude.{ℕ, zero, suc, ◌+◌, ◌*◌, ◌/◌, ◌%◌, ◌<◌, true, false, List, [], ◌∷◌, reverse, length, get_or}
use Rattle.octets.specs.declared.Endianness.{Endianness}
use Rattle.octets.specs.declared.Endianness.TheVariants.{Little, Big}
use Rattle.octets.specs.Reader.{Reader, same}
use Rattle.octets.specs.Reader.Reader.{bytes, stray}

-- each element is a byte, as it is in a slice of bytes
abbrev pub Bytes : List ℕ → Type 0
Bytes l = (i : ℕ) → get_or l i 0 < 256

-- the number that bytes spell with the least significant byte first
abbrev pub little : List ℕ → ℕ
little [] = 0
little (b ∷ bs) = b + 256 * little bs

-- these bytes, least significant first: as they stand in the little order, reversed in the big one
abbrev pub least_first : Endianness → List ℕ → List ℕ
least_first Little bs = bs
least_first Big bs = reverse bs

-- the number that bytes spell in an order
abbrev pub spelled : Endianness → List ℕ → ℕ
spelled e bs = little (least_first e bs)

-- The w bytes that spell a number, least significant first, and in an order. What w bytes have no room for is not told. proofs/Spelling.antt: where a number has room,
-- its bytes spell it; and bytes are those of the number that they spell.
abbrev pub digits : ℕ → ℕ → List ℕ
digits zero n = []
digits (suc w) n = n % 256 ∷ digits w (n / 256)

abbrev pub bytes_of : Endianness → ℕ → ℕ → List ℕ
bytes_of e w n = least_first e (digits w n)

-- a number of n bytes in the order e
abbrev pub number : {A : Type 0} → Endianness → ℕ → (ℕ → Reader A) → Reader A
number e n k = bytes n (λ b. k (spelled e b))

-- these very bytes
abbrev pub tag : {A : Type 0} → List ℕ → Reader A → Reader A
tag m r = bytes (length m) (λ b. elim (same b m) [ true ↦ r | false ↦ stray (length m) ])
