-- The rules at small inputs, computed.
use mathlib.Core.List.{[], ◌∷◌, ◌++◌}
use mathlib.Core.Path.{◌≡◌, refl}
use lib.ListN.{replicate}
use Rattle.octets.specs.declared.Endianness.TheVariants.{Big}
use Rattle.octets.specs.declared.PointerSize.TheVariants.{Bits32}
use Rattle.octets.specs.Ascii.{ascii}
use Rattle.octets.specs.Reader.{run}
use Rattle.octets.specs.Reader.Outcome.{read}
use Rattle.header.specs.declared.FileFormat.TheVariants.{Legacy, New}
use Rattle.block.specs.BlockHeaders.{fields, block_header}

-- block headers of two forms: code "DATA", size 0, address 1, index 2, count 3. In the New one only the address is in the file's order.
blocks :
    (run (block_header (record { pointer_size = Bits32; endianness = Big; version = record { major = 0; minor = 0 }; format = Legacy }))
    (ascii "DATA" ++ (0 ∷ 0 ∷ 0 ∷ 0 ∷ 0 ∷ 0 ∷ 0 ∷ 1 ∷ 0 ∷ 0 ∷ 0 ∷ 2 ∷ 0 ∷ 0 ∷ 0 ∷ 3 ∷ [])) 0
    ≡ read (record { code = 1145132097; size = 0; address = 1; index = 2; count = 3 }) 20)
    × (run (block_header (record { pointer_size = Bits32; endianness = Big; version = record { major = 0; minor = 0 }; format = New }))
    (ascii "DATA" ++ (2 ∷ 0 ∷ 0 ∷ 0 ∷ 0 ∷ 0 ∷ 0 ∷ 1 ∷ []) ++ replicate 8 0 ++ (3 ∷ []) ++ replicate 7 0) 0
    ≡ read (record { code = 1145132097; size = 0; address = 1; index = 2; count = 3 }) 28)
unfolding run block_header fields
blocks = (refl, refl)
