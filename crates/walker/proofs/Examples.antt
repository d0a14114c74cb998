-- The rules at small inputs, computed.
use Prim.Native.Nat.{ℕ}
use mathlib.Core.Bool.{true, false}
use mathlib.Core.List.{List, [], ◌∷◌, ◌++◌}
use mathlib.Core.Path.{◌≡◌, refl}
use Rattle.octets.specs.Ascii.{ascii}
use Rattle.octets.specs.Paper.Paper.{accepts, refuses}
use Rattle.octets.specs.Reader.{run, then, times}
use Rattle.dna.specs.Catalogue.{catalogue, listed, strings, sized, struct, structured, field_count}
use Rattle.header.specs.Header.{decimal, legacy, new, header_bytes}
use Rattle.block.specs.BlockHeaders.{fields, block_header}
use Rattle.block.specs.Kinds.{kind_of}
use Rattle.blend.specs.Blocks.{block, row_at, finished, boundary_of}
use Rattle.walker.specs.Walker.{step_by, start}

-- Document 01's example: a Principal "OB" with the payload "hull", and a DNA1 with a catalogue of 52 bytes.
unfoldable hull : List ℕ
hull =
    ascii "BLENDER-v280" ++ ascii "OB" ++ (0 ∷ 0 ∷ 4 ∷ 0 ∷ 0 ∷ 0 ∷ 16 ∷ 0 ∷ 0 ∷ 0 ∷ 0 ∷ 0 ∷ 0 ∷ 0 ∷ 3 ∷ 0 ∷ 0 ∷ 0 ∷ 1 ∷ 0 ∷ 0 ∷ 0 ∷ []) ++ ascii "hull"
    ++ ascii "DNA1" ++ (52 ∷ 0 ∷ 0 ∷ 0 ∷ 32 ∷ 0 ∷ 0 ∷ 0 ∷ 0 ∷ 0 ∷ 0 ∷ 0 ∷ 0 ∷ 0 ∷ 0 ∷ 0 ∷ 1 ∷ 0 ∷ 0 ∷ 0 ∷ [])
    ++ ascii "SDNANAME" ++ (1 ∷ 0 ∷ 0 ∷ 0 ∷ 120 ∷ 0 ∷ 0 ∷ 0 ∷ []) ++ ascii "TYPE" ++ (1 ∷ 0 ∷ 0 ∷ 0 ∷ []) ++ ascii "int" ++ (0 ∷ [])
    ++ ascii "TLEN" ++ (4 ∷ 0 ∷ 0 ∷ 0 ∷ []) ++ ascii "STRC" ++ (1 ∷ 0 ∷ 0 ∷ 0 ∷ 0 ∷ 0 ∷ 1 ∷ 0 ∷ 0 ∷ 0 ∷ 0 ∷ 0 ∷ [])
    ++ ascii "ENDB"

-- The walker: the first block, and the end from the place after the last; a place past the end; the view of the first row and of none.
steps : ((step_by header_bytes hull start).answer ≡ accepts 0 (1329725440 ∷ 16 ∷ 3 ∷ 1 ∷ 12 ∷ 36 ∷ 4 ∷ [])) × ((step_by header_bytes hull start).place ≡ record { at = 40; dna = false })
    × ((step_by header_bytes hull (record { at = 116; dna = true })).answer ≡ accepts 1 (120 ∷ [])) × ((step_by header_bytes hull (record { at = 121; dna = true })).answer ≡ refuses 13 [])
unfolding run then times header_bytes legacy new decimal boundary_of row_at block block_header fields kind_of finished catalogue listed strings sized structured struct field_count step_by hull
steps = (refl, refl, refl, refl)
