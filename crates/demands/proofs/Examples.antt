-- Document 01's P examples, computed of the rules; and a scene to which the demands apply, with copies of it that were changed.
use Rattle.std.specs.Prelude.{Result, Ok}
use Prim.Native.Nat.{ℕ}
use mathlib.Core.List.{List, [], ◌∷◌}
use mathlib.Core.Path.{◌≡◌, refl, ◌∙◌, ap}
use native.Mathlib.Omega.{arith}
use lib.ListN.{replicate}
use Rattle.octets.specs.declared.Endianness.{Endianness}
use Rattle.octets.specs.declared.Endianness.TheVariants.{Little, Big}
use Rattle.octets.specs.declared.PointerSize.{PointerSize}
use Rattle.octets.specs.declared.PointerSize.TheVariants.{Bits32, Bits64}
use Rattle.octets.specs.Ascii.{ascii}
use Rattle.octets.specs.Paper.Paper.{refuses}
use Rattle.octets.specs.Reader.{run, then, times}
use Rattle.octets.specs.Reader.Outcome.{read}
use Rattle.dna.specs.Catalogue.{catalogue, listed, strings, sized, struct, structured, field_count}
use Rattle.field.specs.Declarators.{function_pointer, function_as, taken, groups, spanned, digits, decimal, numbers, product, pointer_or_value, declared}
use Rattle.header.specs.declared.Header.{Header}
use Rattle.octets.specs.declared.Fault.{Fault}
use Rattle.block.specs.BlockHeaders.{fields, block_header}
use Rattle.block.specs.Kinds.{kind_of}
use Rattle.blend.specs.Blocks.{block, row_at, finished, boundary_of}
use Rattle.blend.specs.Chain.{chain, chain_from, file_by, read_as}
use Rattle.block.specs.Rows.{row_table, rows_spelt}
use Rattle.header.specs.Header.{decimal as versionDecimal, legacy, new, header_bytes, valued, header_as}
use Rattle.header.proofs.Lossless.{whole-header}
use Rattle.header.specs.declared.FileFormat.{FileFormat}
use Rattle.header.specs.declared.FileFormat.TheVariants.{Legacy, New}
use Rattle.blend.specs.Calls.{Answers, «blend::blend»}
use Rattle.header.specs.Calls.{«blend::header»}
use Rattle.demands.specs.Answers.{rows_in}
use Rattle.demands.specs.Cover.{Covered}
use Rattle.demands.specs.Examples.{All, examples, malformed, AtTheEdges, scene, sound, changed, answer, before, after, scene_in, answer_in, table_in, ScenesAreRead}
use Rattle.runtime.specs.Views.{part_as}
use Rattle.demands.specs.Unaltered.{agree, Alike, Stays}
use Rattle.octets.specs.Looks.{Untouched}
use Rattle.demands.proofs.Cover.{every-block}
use Rattle.demands.proofs.Unaltered.{no_other_object, agree-near, agree-alike}

of-header : (s : List ℕ) (h : Header) (at : ℕ) → valued (run header_bytes s 0) ≡ read h at → (r : Result (Header × ℕ) Fault) → «blend::header» s r → r ≡ Ok (h, at)
of-header s h at e r w = whole-header r (Ok (h, at)) (w ∙ ap header_as e)

in_legacy : Header
in_legacy = record { pointer_size = Bits64; endianness = Little; version = record { major = 0; minor = 20 }; format = Legacy }

in_new : Header
in_new = record { pointer_size = Bits64; endianness = Little; version = record { major = 5; minor = 1 }; format = New }

at_document_one : All examples
unfolding run then header_bytes legacy new versionDecimal chain_from chain boundary_of row_at block block_header fields kind_of finished read_as declared function_pointer pointer_or_value groups taken spanned numbers decimal digits product in_legacy in_new
at_document_one = (
  λ t t' r w. w.0,
  (
    λ t t' r w. w.0,
    (
      λ r w. (in_new, 17, of-header (ascii "BLENDER17-01v0501") in_new 17 refl r w, refl),
      (
        λ r w. (in_legacy, 12, of-header (ascii "BLENDER-v2x0") in_legacy 12 refl r w, refl),
        (λ t t' r w. w.0, (λ r t' w. w, (λ r t' w. w, (λ r t' w. w, (λ r t' w. w, (λ r t' w. w, (λ r t' w. w, (λ r t' w. w, tt)))))))),
      ),
    ),
  ),
)

where_malformed : All malformed
unfolding run then times header_bytes legacy new versionDecimal chain_from chain boundary_of row_at block block_header fields kind_of finished catalogue listed strings sized structured struct read_as function_pointer function_as scene
where_malformed = (λ t t' r w. w.0, (λ t t' r w. w.0, (λ t t' r w. w.0, (λ t t' r w. w.0, (λ t t' r w. w.0, (λ t t' r w. w.0, (λ t t' r w. w.0, (λ t t' r w. w.0, (λ t t' r w. w.0, (λ t t' r w. w.0, (λ t t' r w. w.0, (λ r w. w, (λ r w. w, (λ r w. w, (λ r w. w, (λ r w. w, (λ r w. w, tt)))))))))))))))))

pub at_the_edges : AtTheEdges
at_the_edges = (at_document_one, where_malformed)

-- both are read, with the same answer and the same table
pub read-sound : Answers (file_by header_bytes) sound before (Ok answer) after
unfolding run then times header_bytes legacy new versionDecimal chain_from chain boundary_of row_at block block_header fields kind_of finished catalogue listed strings sized structured struct field_count read_as row_table scene
read-sound = (refl, refl)

pub read-changed : Answers (file_by header_bytes) changed before (Ok answer) after
unfolding run then times header_bytes legacy new versionDecimal chain_from chain boundary_of row_at block block_header fields kind_of finished catalogue listed strings sized structured struct field_count read_as row_table scene
read-changed = (refl, refl)

in_forms : (f : FileFormat) (p : PointerSize) (e : Endianness) → «blend::blend» (scene_in f p e) (replicate 14 9) (Ok (answer_in f p e)) (table_in f p)
unfolding run then times header_bytes legacy new versionDecimal chain_from chain boundary_of row_at block block_header fields kind_of finished catalogue listed strings sized structured struct field_count read_as row_table scene_in
in_forms Legacy Bits32 Little = (refl, refl)
in_forms Legacy Bits32 Big = (refl, refl)
in_forms Legacy Bits64 Little = (refl, refl)
in_forms Legacy Bits64 Big = (refl, refl)
in_forms New Bits32 Little = (refl, refl)
in_forms New Bits32 Big = (refl, refl)
in_forms New Bits64 Little = (refl, refl)
in_forms New Bits64 Big = (refl, refl)

pub scenes_are_read : ScenesAreRead
scenes_are_read = record { of-sound = read-sound; of-changed = read-changed; of_forms = in_forms }

-- they are alike but in the first object's payload, so the second demand applies; the first does to both
pub alike : Alike (rows_in after answer.rows) 148 sound changed
unfolding scene agree rows_spelt
alike = agree-alike (rows_in after answer.rows) 148 sound changed (omega arith) refl

pub stays : Stays sound before after 3 Little changed before after
stays = (no_other_object sound before after (Ok answer) read-sound changed before after (Ok answer) read-changed refl alike).1

-- the second object's payload shows the same bytes by its view, and the first one's does not
untouched : Untouched sound changed 64 68
unfolding scene agree
untouched i k m = agree-near [] sound changed 64 4 refl i k m refl

pub shown : part_as changed after 1 ≡ part_as sound after 1
shown = (stays.views 1 (omega arith)).2 untouched

pub touched : (part_as sound after 0 ≡ ascii "hull") × (part_as changed after 0 ≡ 0 ∷ 255 ∷ 69 ∷ 78 ∷ [])
unfolding scene part_as
touched = (refl, refl)

pub covered : Covered header_bytes sound answer.header (rows_in after answer.rows) 148
covered = every-block sound before after (Ok answer) read-sound

-- A byte of the DNA1's payload is another matter: with a mark of its catalogue changed the file is refused.
pub dna_matters : read_as (file_by header_bytes (scene (ascii "hull") (ascii "hull") (ascii "TYPO") [])) 3 ≡ refuses 17 (108 ∷ [])
unfolding run then times header_bytes legacy new versionDecimal chain_from chain boundary_of row_at block block_header fields kind_of finished catalogue listed strings sized structured struct field_count read_as row_table scene
dna_matters = refl
