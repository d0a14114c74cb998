-- Which numbers a block header has, by edition and pointer size, in which order, width and byte order. Its length follows.
use Rattle.std.specs.Prelude.{ℕ, ◌+◌, List, [], ◌∷◌}
use Rattle.octets.specs.declared.Endianness.{Endianness}
use Rattle.octets.specs.declared.Endianness.TheVariants.{Little}
use Rattle.octets.specs.declared.PointerSize.{PointerSize}
use Rattle.octets.specs.PointerSize.{pointer_bytes}
use Rattle.header.specs.declared.FileFormat.{FileFormat}
use Rattle.header.specs.declared.FileFormat.TheVariants.{Legacy, New}
use Rattle.header.specs.declared.Header.{Header}

-- Layout: after the code of 4 bytes, these numbers in order, each with its width and its byte order.
pub data Field : Type 0 where
  size : Field
  address : Field
  index : Field
  count : Field

pub record Item : Type 0 where
  pub field : Field
  pub width : ℕ
  pub order : Endianness

abbrev pub item : Field → ℕ → Endianness → Item
item f w e = record { field = f; width = w; order = e }

-- by edition, pointer bytes and the file's order
abbrev pub layout_of : FileFormat → ℕ → Endianness → List Item
layout_of Legacy p e = item size 4 e ∷ item address p e ∷ item index 4 e ∷ item count 4 e ∷ []
layout_of New p e = item index 4 Little ∷ item address p e ∷ item size 8 Little ∷ item count 8 Little ∷ []

abbrev pub layout : Header → List Item
layout h = layout_of h.format (pointer_bytes h.pointer_size) h.endianness

-- A block header's length: the code's 4 bytes and the widths of its layout, whatever the order. 20, 24, 28 or 32 bytes by edition and pointer size; as
-- many as its tree takes (crates/block/proofs/Layouts.antt, `block_header_moves`).
abbrev pub widths : List Item → ℕ
widths [] = 0
widths (i ∷ is) = i.width + widths is

abbrev pub block_header_length : FileFormat → PointerSize → ℕ
block_header_length f p = 4 + widths (layout_of f (pointer_bytes p) Little)
