-- What each function for other languages promises, by its name (crates/octets/specs/Calls.antt says how to read it). A table that is lent to write in stands for what
-- it held, and primed for what it holds afterwards.
use Rattle.std.specs.Prelude.{ℕ, ◌/◌, List, ◌≡◌, length}
use Rattle.primitive.specs.Primitive.{value_of, unsigned}
use Rattle.octets.specs.Reader.{run}
use Rattle.dna.specs.Catalogue.{catalogue}
use Rattle.field.specs.Declarators.{declared, parsed_as, filled_by}
use Rattle.header.specs.Header.{header_bytes, valued, header_as}
use Rattle.blend.specs.Chain.{file_by, read_as, table_after}
use Rattle.block.specs.Rows.{Column, per_row, cell}
use Rattle.walker.specs.Walker.{step_by}
use Rattle.runtime.specs.Views.{view_as}
use Rattle.runtime.specs.Addresses.{lookup_as}
use Rattle.index.specs.Index.{indexed_as, heads_after, links_after, found_as}
use Rattle.writer.specs.Writer.{write_of, paper_write, output_after}
use Rattle.exports.specs.declared.BlendHeader.{BlendHeader}
use Rattle.exports.specs.declared.BlendRead.{BlendRead}
use Rattle.exports.specs.declared.BlendStep.{BlendStep}
use Rattle.exports.specs.declared.BlendCatalogue.{BlendCatalogue}
use Rattle.exports.specs.declared.BlendField.{BlendField}
use Rattle.exports.specs.declared.BlendView.{BlendView}
use Rattle.exports.specs.declared.BlendPointer.{BlendPointer}
use Rattle.exports.specs.declared.BlendIndex.{BlendIndex}
use Rattle.exports.specs.declared.BlendFound.{BlendFound}
use Rattle.exports.specs.declared.BlendValue.{BlendValue}
use Rattle.exports.specs.declared.BlendWritten.{BlendWritten}
use Rattle.exports.specs.Exports.{order_of, header_out, read_out, place_from, step_out, Catalogued, field_out, width_of, size_of, view_out, pointer_out, index_out, found_out, header_of, written_out, value_out}

abbrev pub blend_header : (file : List ℕ) → BlendHeader → Type 0
blend_header file r = r ≡ header_out (header_as (valued (run header_bytes file 0)))

abbrev pub blend_read : (file table : List ℕ) → BlendRead → List ℕ → Type 0
blend_read file table r table' = (r ≡ read_out (read_as (file_by header_bytes file) (length table / per_row))) × (table' ≡ table_after (file_by header_bytes file) table)

abbrev pub blend_step : (file : List ℕ) (at dna : ℕ) → BlendStep → Type 0
blend_step file at dna r = r ≡ step_out (step_by header_bytes file (place_from at dna)).answer (step_by header_bytes file (place_from at dna)).place

abbrev pub blend_catalogue : (payload : List ℕ) (order : ℕ) (names types structs fields : List ℕ) → BlendCatalogue → List ℕ → List ℕ → List ℕ → List ℕ → Type 0
blend_catalogue payload order names types structs fields r names' types' structs' fields' = Catalogued (run (catalogue (order_of order)) payload 0) r names types structs fields names' types' structs' fields'

abbrev pub blend_field : (name dimensions : List ℕ) → BlendField → List ℕ → Type 0
blend_field name dimensions r dimensions' = (r ≡ field_out (parsed_as (declared name) (length dimensions))) × (dimensions' ≡ filled_by (declared name) dimensions)

abbrev pub blend_width : (field : BlendField) (size pointer_bytes : ℕ) → BlendValue → Type 0
blend_width field size pointer_bytes r = r ≡ value_out (width_of field size (size_of pointer_bytes))

abbrev pub blend_view : (file table : List ℕ) (row : ℕ) → BlendView → Type 0
blend_view file table row r = r ≡ view_out (view_as file table row) (cell table row Column.payload) (cell table row Column.len)

abbrev pub blend_lookup : (table : List ℕ) (rows address : ℕ) → BlendPointer → Type 0
blend_lookup table rows address r = r ≡ pointer_out (lookup_as table rows address)

abbrev pub blend_index : (table : List ℕ) (rows buckets : ℕ) (heads links : List ℕ) → BlendIndex → List ℕ → List ℕ → Type 0
blend_index table rows buckets heads links r heads' links' =
    (r ≡ index_out (indexed_as table rows buckets heads links))
    × (heads' ≡ heads_after table rows buckets heads links)
    × (links' ≡ links_after table rows buckets heads links)

abbrev pub blend_find : (table : List ℕ) (rows buckets : ℕ) (heads links : List ℕ) (address : ℕ) → BlendFound → Type 0
blend_find table rows buckets heads links address r = r ≡ found_out (found_as table rows buckets heads links address)

abbrev pub blend_write : (edition pointer_bytes order major minor : ℕ) (table : List ℕ) (rows : ℕ) (source out : List ℕ) → BlendWritten → List ℕ → Type 0
blend_write edition pointer_bytes order major minor table rows source out r out' =
    let h = header_of edition pointer_bytes order major minor in
    let w = write_of h table rows source (length out) in
    (r ≡ written_out (paper_write w)) × (out' ≡ output_after w h table rows source out)

abbrev pub blend_u8 : (slice : List ℕ) (order : ℕ) → BlendValue → Type 0
blend_u8 slice order r = r ≡ value_out (value_of 1 unsigned (order_of order) slice)

abbrev pub blend_u16 : (slice : List ℕ) (order : ℕ) → BlendValue → Type 0
blend_u16 slice order r = r ≡ value_out (value_of 2 unsigned (order_of order) slice)

abbrev pub blend_u32 : (slice : List ℕ) (order : ℕ) → BlendValue → Type 0
blend_u32 slice order r = r ≡ value_out (value_of 4 unsigned (order_of order) slice)

abbrev pub blend_u64 : (slice : List ℕ) (order : ℕ) → BlendValue → Type 0
blend_u64 slice order r = r ≡ value_out (value_of 8 unsigned (order_of order) slice)
