-- Spelling: the bytes of a block header after its code against the numbers of its row, and a block header written. Where `Spell` is used, that the bytes are there is
-- said beside it.
use Rattle.std.specs.Prelude.{ℕ, ◌+◌, ◌^◌, Bool, true, ◌&&◌, List, [], ◌∷◌, ◌++◌, ◌≡◌, ltb}
use Rattle.octets.specs.declared.Endianness.TheVariants.{Big}
use Rattle.octets.specs.Looks.{part}
use Rattle.octets.specs.Number.{spelled, bytes_of}
use Rattle.header.specs.declared.Header.{Header}
use Rattle.header.specs.Layout.{Field, Item, layout}
use Rattle.header.specs.Layout.Field.{size, address, index, count}
use Rattle.block.specs.declared.Row.{Row}

-- the number of a row that a field of its block header tells
abbrev pub told : Row → Field → ℕ
told r size = r.len
told r address = r.address
told r index = r.index
told r count = r.count

-- the bytes from `at` spell these numbers one after another, each in its width and order
abbrev pub Spell : List Item → (Field → ℕ) → List ℕ → ℕ → Type 0
Spell [] number bs at = Unit {0}
Spell (i ∷ is) number bs at = (spelled i.order (part bs at i.width) ≡ number i.field) × Spell is number bs (at + i.width)

-- The bytes of these numbers, one after another, each in its width and order; and whether each has room there.
abbrev pub spell : List Item → (Field → ℕ) → List ℕ
spell [] number = []
spell (i ∷ is) number = bytes_of i.order i.width (number i.field) ++ spell is number

abbrev pub fits : List Item → (Field → ℕ) → Bool
fits [] number = true
fits (i ∷ is) number = ltb (number i.field) (256 ^ i.width) && fits is number

-- A block header written: its code, first byte most significant, and the numbers of its layout. proofs/BlockHeadersOut.antt: it is read back where its numbers have room,
-- its code is below 2^32 and its address is not 0; and one that was read is written as it was.
unfoldable pub block_header_out : Header → Row → List ℕ
block_header_out h r = bytes_of Big 4 r.code ++ spell (layout h) (told r)

-- whether a row's numbers, the code aside, have room in the block headers of a form
abbrev pub row_fits : Header → Row → Bool
row_fits h r = fits (layout h) (told r)
