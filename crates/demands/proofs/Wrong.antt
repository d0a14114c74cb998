-- The demands are not met by wrong readings: each is computed of the scene, or of a copy of it that differs in one object's payload.
use Rattle.std.specs.Prelude.{Ok, Err}
use Prim.Native.Nat.{ℕ}
use mathlib.Core.List.{List, [], ◌∷◌}
use mathlib.Core.Path.{◌≡◌, refl, ap}
use native.Mathlib.Omega.{arith}
use lib.ListN.{length}
use Rattle.octets.specs.declared.Fault.TheVariants.{Mark}
use Rattle.octets.specs.Reader.{run, then, times}
use Rattle.dna.specs.Catalogue.{catalogue, listed, strings, sized, struct, structured, field_count}
use Rattle.blend.specs.declared.blend.RawBlend.{RawBlend}
use Rattle.blend.specs.declared.blend.BlendError.{BlendError}
use Rattle.block.specs.BlockHeaders.{fields, block_header}
use Rattle.block.specs.Kinds.{kind_of}
use Rattle.blend.specs.Blocks.{block, row_at, finished, boundary_of}
use Rattle.blend.specs.Chain.{chain, chain_from, read_as}
use Rattle.block.specs.Rows.{row_table, rows_spelt}
use Rattle.header.specs.Header.{decimal as versionDecimal, legacy, new, header_bytes}
use Rattle.blend.specs.Calls.{Answers}
use Rattle.demands.specs.Cover.{blocks_part, Cover}
use Rattle.demands.specs.Examples.{scene, sound, changed, answer, before, after}
use Rattle.demands.specs.Unaltered.{Unaltered}
use Rattle.demands.specs.Wrong.{peeking_by, short_by, unmarked_by, repeating_by}
use Rattle.demands.proofs.Examples.{alike}

-- A reader that looks at a payload's byte reads the one scene and refuses the other.
peeking_sound : Answers (peeking_by header_bytes) sound before (Ok answer) after
unfolding run then times header_bytes legacy new versionDecimal chain_from chain boundary_of row_at block block_header fields kind_of finished catalogue listed strings sized structured struct field_count read_as row_table scene
peeking_sound = (refl, refl)

peeking_changed : Answers (peeking_by header_bytes) changed before (Err (BlendError.Fault (Mark 0))) before
unfolding run then times header_bytes legacy new versionDecimal chain_from chain boundary_of row_at block block_header fields kind_of finished catalogue listed strings sized structured struct field_count read_as row_table scene
peeking_changed = (refl, refl)

pub peeking_alters : Unaltered (peeking_by header_bytes) → ⊥
peeking_alters demand =
    let e : (Err (BlendError.Fault (Mark 0))) ≡ (Ok answer) = (demand sound before after (Ok answer) peeking_sound changed before before (Err (BlendError.Fault (Mark 0))) peeking_changed refl alike).0 in
    let z : ◌≡◌ {A = ℕ} 0 1 = cc in
    absurd (omega arith)

-- Rows that are a byte too short leave three bytes of the file uncovered.
abbrev short_after : List ℕ
short_after = 1329725440 ∷ 16 ∷ 3 ∷ 1 ∷ 12 ∷ 36 ∷ 3 ∷ 1329725440 ∷ 16 ∷ 3 ∷ 1 ∷ 40 ∷ 64 ∷ 3 ∷ 1145979185 ∷ 32 ∷ 0 ∷ 1 ∷ 68 ∷ 92 ∷ 51 ∷ 9 ∷ []

short-sound : Answers (short_by header_bytes) sound before (Ok answer) short_after
unfolding run then times header_bytes legacy new versionDecimal chain_from chain boundary_of row_at block block_header fields kind_of finished catalogue listed strings sized structured struct field_count read_as row_table scene
short-sound = (refl, refl)

pub short_uncovers : Cover header_bytes (short_by header_bytes) → ⊥
unfolding scene rows_spelt blocks_part
short_uncovers demand =
    let e : ◌≡◌ {A = ℕ} 148 145 = ap length (demand sound before short_after (Ok answer) short-sound).whole in
    absurd (omega arith)

-- An end offset that forgets the mark leaves the mark uncovered.
abbrev unmarked : RawBlend
unmarked = record { header = answer.header; rows = 3; end = 144; dna = answer.dna }

unmarked-sound : Answers (unmarked_by header_bytes) sound before (Ok unmarked) after
unfolding run then times header_bytes legacy new versionDecimal chain_from chain boundary_of row_at block block_header fields kind_of finished catalogue listed strings sized structured struct field_count read_as row_table scene
unmarked-sound = (refl, refl)

pub unmarked_uncovers : Cover header_bytes (unmarked_by header_bytes) → ⊥
unfolding scene rows_spelt blocks_part
unmarked_uncovers demand =
    let e : ◌≡◌ {A = ℕ} 144 148 = ap length (demand sound before after (Ok unmarked) unmarked-sound).whole in
    absurd (omega arith)

-- A first block that is read again in the place of the second, which has the same bytes, covers its bytes twice.
abbrev repeated : List ℕ
repeated = 1329725440 ∷ 16 ∷ 3 ∷ 1 ∷ 12 ∷ 36 ∷ 4 ∷ 1329725440 ∷ 16 ∷ 3 ∷ 1 ∷ 12 ∷ 36 ∷ 4 ∷ 1145979185 ∷ 32 ∷ 0 ∷ 1 ∷ 68 ∷ 92 ∷ 52 ∷ 9 ∷ []

repeating_sound : Answers (repeating_by header_bytes) sound before (Ok answer) repeated
unfolding run then times header_bytes legacy new versionDecimal chain_from chain boundary_of row_at block block_header fields kind_of finished catalogue listed strings sized structured struct field_count read_as row_table scene
repeating_sound = (refl, refl)

pub repeating_overlaps : Cover header_bytes (repeating_by header_bytes) → ⊥
unfolding rows_spelt
repeating_overlaps demand =
    let e : ◌≡◌ {A = ℕ} 12 40 = (demand sound before repeated (Ok answer) repeating_sound).abut.1.0 in
    absurd (omega arith)
