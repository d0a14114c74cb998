-- What `{}` writes of the types of this crate: the bytes of its text.
use Rattle.std.specs.Prelude.{ℕ, List, ◌++◌, decimal}
use Rattle.octets.specs.declared.Endianness.{Endianness}
use Rattle.octets.specs.declared.Endianness.TheVariants.{Little, Big}
use Rattle.octets.specs.declared.Fault.{Fault}
use Rattle.octets.specs.declared.Fault.TheVariants.{Cut, Mark}
use Rattle.octets.specs.declared.PointerSize.{PointerSize}
use Rattle.octets.specs.declared.PointerSize.TheVariants.{Bits32, Bits64}
use Rattle.octets.specs.declared.Refusal.{Refusal}
use Rattle.octets.specs.Ascii.{ascii}
use Rattle.octets.specs.Refusals.{number_of, cut_short, wrong_mark}

-- a pointer's size in bits
abbrev pub printed_pointer_size : PointerSize → List ℕ
printed_pointer_size Bits32 = ascii "32"
printed_pointer_size Bits64 = ascii "64"

abbrev pub printed_endianness : Endianness → List ℕ
printed_endianness Little = ascii "little"
printed_endianness Big = ascii "big"

-- a refusal's number, in decimal
abbrev pub printed_refusal : Refusal → List ℕ
printed_refusal r = decimal (number_of r)

-- a fault's number and, of a cut and a wrong mark, a space and the place
abbrev pub printed_fault : Fault → List ℕ
printed_fault (Cut at) = decimal cut_short ++ (ascii " " ++ decimal at)
printed_fault (Mark at) = decimal wrong_mark ++ (ascii " " ++ decimal at)
printed_fault (Fault.Refusal r) = printed_refusal r
