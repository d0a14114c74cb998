-- The rules at small inputs, computed.
use mathlib.Core.List.{[], ◌∷◌}
use mathlib.Core.Path.{◌≡◌, refl}
use Rattle.octets.specs.Ascii.{ascii}
use Rattle.octets.specs.Paper.Paper.{accepts, refuses}
use Rattle.octets.specs.Reader.{run}
use Rattle.header.specs.Header.{decimal, legacy, new, header_bytes, valued, header_as, version_of}

-- headers: no magic, nothing after it, one of each edition, and a wrong mark, with its place; in a New header the unchecked bytes are anything
headers : (header_as (valued (run header_bytes (ascii "BLENDE") 0)) ≡ refuses 1 []) × (header_as (valued (run header_bytes (ascii "BLENDER") 0)) ≡ refuses 16 (7 ∷ []))
    × (header_as (valued (run header_bytes (ascii "BLENDER-v280") 0)) ≡ accepts 0 (0 ∷ 8 ∷ 0 ∷ 2 ∷ 80 ∷ 12 ∷ []))
    × (header_as (valued (run header_bytes (ascii "BLENDER17_01V0501") 0)) ≡ accepts 0 (1 ∷ 4 ∷ 1 ∷ 5 ∷ 1 ∷ 17 ∷ []))
    × (header_as (valued (run header_bytes (ascii "BLENDERxx_xxV0501") 0)) ≡ accepts 0 (1 ∷ 4 ∷ 1 ∷ 5 ∷ 1 ∷ 17 ∷ []))
    × (header_as (valued (run header_bytes (ascii "BLENDER_x280") 0)) ≡ refuses 17 (8 ∷ []))
unfolding run header_bytes legacy new decimal
headers = (refl, refl, refl, refl, refl, refl)

versions : (version_of (ascii "0501") ≡ record { major = 5; minor = 1 }) × (version_of (ascii "2x0") ≡ record { major = 0; minor = 20 })
    × (version_of (ascii "xyz") ≡ record { major = 0; minor = 0 })
unfolding decimal
versions = (refl, refl, refl)
