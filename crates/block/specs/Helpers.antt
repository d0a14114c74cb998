-- What inner functions ensure. No rule uses it.
use Rattle.std.specs.Prelude.{ℕ, true, false, List, eqb, drop}
use Rattle.octets.specs.declared.Endianness.{Endianness}
use Rattle.octets.specs.declared.Endianness.TheVariants.{Little}
use Rattle.octets.specs.declared.Fault.{Fault}
use Rattle.octets.specs.declared.Refusal.TheVariants.{InvalidMemoryAddress}
use Rattle.octets.specs.Reader.{Outcome}
use Rattle.octets.specs.Reader.Outcome.{read, fault}
use Rattle.header.specs.declared.FileFormat.{FileFormat}
use Rattle.header.specs.Layout.{Item, layout_of, widths}
use Rattle.block.specs.declared.BlockHeader.{BlockHeader}

-- what a layout has after its address: two numbers, and how wide the last is
abbrev pub last_two : FileFormat → ℕ → Endianness → List Item
last_two f p e = drop 2 (layout_of f p e)

abbrev pub last_width : FileFormat → ℕ
last_width f = widths (drop 3 (layout_of f 0 Little))

-- a block header that stands there, unless its address is 0
abbrev pub with_address : BlockHeader → ℕ → Outcome BlockHeader
with_address b next = elim (eqb b.address 0) [ true ↦ fault (Fault.Refusal InvalidMemoryAddress) | false ↦ read b next ]
