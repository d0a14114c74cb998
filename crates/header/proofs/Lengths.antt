-- A block header's length follows from its layout.
use Prim.Native.Nat.{ℕ, ◌+◌, ◌≤◌}
use mathlib.Core.Path.{◌≡◌, refl, ap}
use native.Mathlib.Omega.{arith}
use Rattle.octets.specs.declared.Endianness.{Endianness}
use Rattle.octets.specs.declared.PointerSize.{PointerSize}
use Rattle.octets.specs.declared.PointerSize.TheVariants.{Bits32, Bits64}
use Rattle.octets.specs.PointerSize.{pointer_bytes}
use Rattle.header.specs.declared.FileFormat.{FileFormat}
use Rattle.header.specs.declared.FileFormat.TheVariants.{Legacy, New}
use Rattle.header.specs.declared.Header.{Header}
use Rattle.header.specs.Layout.{layout_of, layout, widths, block_header_length}

-- whatever the order
widths-same : (f : FileFormat) (p : ℕ) (d e : Endianness) → widths (layout_of f p d) ≡ widths (layout_of f p e)
widths-same Legacy p d e = refl
widths-same New p d e = refl

pub layout-length : (h : Header) → block_header_length h.format h.pointer_size ≡ 4 + widths (layout h)
layout-length h = ap (λ (n : ℕ). 4 + n) (widths-same h.format (pointer_bytes h.pointer_size) _ h.endianness)

-- no block header is shorter than 20 bytes, or longer than 32
pub header_at-least : (f : FileFormat) (p : PointerSize) → 20 ≤ block_header_length f p
header_at-least Legacy Bits32 = omega arith
header_at-least Legacy Bits64 = omega arith
header_at-least New Bits32 = omega arith
header_at-least New Bits64 = omega arith
