-- The rules at small inputs, computed.
use Prim.Native.Nat.{ℕ}
use mathlib.Core.List.{List, [], ◌∷◌, ◌++◌}
use mathlib.Core.Path.{◌≡◌, refl}
use Rattle.octets.specs.Ascii.{ascii}
use Rattle.octets.specs.Paper.Paper.{accepts, refuses}
use Rattle.octets.specs.Reader.{run, then, times}
use Rattle.dna.specs.Catalogue.{catalogue, listed, strings, sized, struct, structured, field_count}
use Rattle.header.specs.Header.{decimal, legacy, new, header_bytes}
use Rattle.block.specs.BlockHeaders.{fields, block_header}
use Rattle.block.specs.Kinds.{kind_of}
use Rattle.blend.specs.Blocks.{block, row_at, finished, boundary_of}
use Rattle.blend.specs.Chain.{chain, chain_from, file_by, read_as, rows_of}
use Rattle.block.specs.Rows.{row_table}

-- Document 01's example: a Principal "OB" with the payload "hull", and a DNA1 with a catalogue of 52 bytes.
unfoldable hull : List ℕ
hull =
    ascii "BLENDER-v280" ++ ascii "OB" ++ (0 ∷ 0 ∷ 4 ∷ 0 ∷ 0 ∷ 0 ∷ 16 ∷ 0 ∷ 0 ∷ 0 ∷ 0 ∷ 0 ∷ 0 ∷ 0 ∷ 3 ∷ 0 ∷ 0 ∷ 0 ∷ 1 ∷ 0 ∷ 0 ∷ 0 ∷ []) ++ ascii "hull"
    ++ ascii "DNA1" ++ (52 ∷ 0 ∷ 0 ∷ 0 ∷ 32 ∷ 0 ∷ 0 ∷ 0 ∷ 0 ∷ 0 ∷ 0 ∷ 0 ∷ 0 ∷ 0 ∷ 0 ∷ 0 ∷ 1 ∷ 0 ∷ 0 ∷ 0 ∷ [])
    ++ ascii "SDNANAME" ++ (1 ∷ 0 ∷ 0 ∷ 0 ∷ 120 ∷ 0 ∷ 0 ∷ 0 ∷ []) ++ ascii "TYPE" ++ (1 ∷ 0 ∷ 0 ∷ 0 ∷ []) ++ ascii "int" ++ (0 ∷ [])
    ++ ascii "TLEN" ++ (4 ∷ 0 ∷ 0 ∷ 0 ∷ []) ++ ascii "STRC" ++ (1 ∷ 0 ∷ 0 ∷ 0 ∷ 0 ∷ 0 ∷ 1 ∷ 0 ∷ 0 ∷ 0 ∷ 0 ∷ 0 ∷ [])
    ++ ascii "ENDB"

-- the answer with enough rows and with too few, and the rows' numbers
read_whole : (read_as (file_by header_bytes hull) 2 ≡ accepts 0 (0 ∷ 8 ∷ 0 ∷ 2 ∷ 80 ∷ 2 ∷ 120 ∷ 1 ∷ 1 ∷ 1 ∷ 1 ∷ [])) × (read_as (file_by header_bytes hull) 1 ≡ refuses 7 (2 ∷ []))
    × (row_table (rows_of (file_by header_bytes hull)) ≡ 1329725440 ∷ 16 ∷ 3 ∷ 1 ∷ 12 ∷ 36 ∷ 4 ∷ 1145979185 ∷ 32 ∷ 0 ∷ 1 ∷ 40 ∷ 64 ∷ 52 ∷ [])
unfolding run then times header_bytes legacy new decimal chain_from chain boundary_of row_at block block_header fields kind_of finished catalogue listed strings sized structured struct field_count read_as row_table hull
read_whole = (refl, refl, refl)

-- A Legacy file with 32-bit pointers, one block of no payload with this code, address and count, and an end mark.
abbrev single : List ℕ → ℕ → ℕ → List ℕ
single code address count = ascii "BLENDER_v280" ++ code ++ (0 ∷ 0 ∷ 0 ∷ 0 ∷ address ∷ 0 ∷ 0 ∷ 0 ∷ 0 ∷ 0 ∷ 0 ∷ 0 ∷ count ∷ 0 ∷ 0 ∷ 0 ∷ []) ++ ascii "ENDB"

-- a code of four zeros with count 1 and with count 2; an address of 0; no block code; no blocks
refusals : (read_as (file_by header_bytes (single (0 ∷ 0 ∷ 0 ∷ 0 ∷ []) 1 1)) 9 ≡ refuses 6 []) × (read_as (file_by header_bytes (single (0 ∷ 0 ∷ 0 ∷ 0 ∷ []) 1 2)) 9 ≡ refuses 4 [])
    × (read_as (file_by header_bytes (single (ascii "REND") 0 1)) 9 ≡ refuses 3 []) × (read_as (file_by header_bytes (single (ascii "USER") 1 1)) 9 ≡ refuses 5 [])
    × (read_as (file_by header_bytes (ascii "BLENDER-v280")) 9 ≡ refuses 16 (12 ∷ [])) × (read_as (file_by header_bytes (ascii "BLENDER-v280ENDB")) 9 ≡ refuses 6 [])
unfolding run then times header_bytes legacy new decimal chain_from chain boundary_of row_at block block_header fields kind_of finished catalogue listed strings sized structured struct field_count read_as
refusals = (refl, refl, refl, refl, refl, refl)
