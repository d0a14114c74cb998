-- Pointer size: 4 or 8 bytes.
use Rattle.std.specs.Prelude.{ℕ}
use Rattle.octets.specs.declared.PointerSize.{PointerSize}
use Rattle.octets.specs.declared.PointerSize.TheVariants.{Bits32, Bits64}

abbrev pub pointer_bytes : PointerSize → ℕ
pointer_bytes Bits32 = 4
pointer_bytes Bits64 = 8
