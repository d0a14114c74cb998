-- What the functions for other languages answer: the paper of the reader's answer as a struct of numbers. `refusal` is 0 or the refusal's number, and on a
-- refusal every number that it does not carry is 0, but a step's next place. Papers of one whole number or float (`integer`, `real`) are none of these calls'.
use Rattle.std.specs.Prelude.{ℕ, Bool, true, false, ◌||◌, ◌&&◌, List, [], ◌≡◌, eqb, ltb, leb, length, get_or}
use Rattle.octets.specs.declared.Endianness.{Endianness}
use Rattle.octets.specs.declared.Endianness.TheVariants.{Little, Big}
use Rattle.octets.specs.declared.PointerSize.{PointerSize}
use Rattle.octets.specs.declared.PointerSize.TheVariants.{Bits32, Bits64}
use Rattle.octets.specs.Paper.{Paper}
use Rattle.octets.specs.Paper.Paper.{accepts, integer, real, refuses}
use Rattle.octets.specs.Reader.{Outcome}
use Rattle.octets.specs.Refusals.{name_not_fully_read, cut_short, wrong_mark}
use Rattle.field.specs.declared.field.Declarator.{Declarator}
use Rattle.field.specs.declared.field.FieldInfo.{FieldInfo}
use Rattle.field.specs.Declarators.{width_as}
use Rattle.dna.specs.Catalogue.{Dna, rooms, read_as, names_table, types_table, structs_table, fields_table}
use Rattle.header.specs.declared.FileFormat.{FileFormat}
use Rattle.header.specs.declared.FileFormat.TheVariants.{Legacy, New}
use Rattle.header.specs.declared.Header.{Header}
use Rattle.header.specs.declared.Version.{Version}
use Rattle.block.specs.Rows.{Column, column_of}
use Rattle.walker.specs.declared.Place.{Place}
use Rattle.exports.specs.declared.BlendHeader.{BlendHeader}
use Rattle.exports.specs.declared.BlendRead.{BlendRead}
use Rattle.exports.specs.declared.BlendStep.{BlendStep}
use Rattle.exports.specs.declared.BlendCatalogue.{BlendCatalogue}
use Rattle.exports.specs.declared.BlendField.{BlendField}
use Rattle.exports.specs.declared.BlendView.{BlendView}
use Rattle.exports.specs.declared.BlendPointer.{BlendPointer}
use Rattle.exports.specs.declared.BlendIndex.{BlendIndex}
use Rattle.exports.specs.declared.BlendFound.{BlendFound}
use Rattle.exports.specs.declared.BlendValue.{BlendValue}
use Rattle.exports.specs.declared.BlendWritten.{BlendWritten}

-- The refusal's number, what it carries, and the numbers of an answer.
abbrev pub refusal : Paper → ℕ
refusal (accepts k vs) = 0
refusal (integer z) = 0
refusal (real x) = 0
refusal (refuses n vs) = n

abbrev pub carried : Paper → ℕ → ℕ
carried (accepts k vs) i = 0
carried (integer z) i = 0
carried (real x) i = 0
carried (refuses n vs) i = get_or vs i 0

-- where a call can answer 16 or 17: the place that those carry, and what any other refusal carries
abbrev pub is_placed : ℕ → Bool
is_placed n = eqb n cut_short || eqb n wrong_mark

abbrev pub fault_at : Paper → ℕ
fault_at p = elim (is_placed (refusal p)) [ true ↦ carried p 0 | false ↦ 0 ]

abbrev pub needed_at : Paper → ℕ → ℕ
needed_at p i = elim (is_placed (refusal p)) [ true ↦ 0 | false ↦ carried p i ]

abbrev pub told_at : Paper → ℕ → ℕ
told_at (accepts k vs) i = get_or vs i 0
told_at (integer z) i = 0
told_at (real x) i = 0
told_at (refuses n vs) i = 0

-- an order by its number: 0 little, any other big
abbrev pub order_of : ℕ → Endianness
order_of n = elim (eqb n 0) [ true ↦ Little | false ↦ Big ]

-- the place of 16 and 17; edition (0 legacy, 1 new), pointer bytes, order (0 little, 1 big), major, minor, the header's length
abbrev pub header_told : (refusal place : ℕ) → (ℕ → ℕ) → BlendHeader
header_told refusal place told =
    record { refusal = refusal; fault_at = place; edition = told 0; pointer_bytes = told 1; order = told 2; major = told 3; minor = told 4; length = told 5 }

abbrev pub header_out : Paper → BlendHeader
header_out p = header_told (refusal p) (fault_at p) (told_at p)

-- the place of 16 and 17, and the rows needed where the table is too short; then the header, the number of rows, the offset after the end mark, and the counts of the last DNA1
abbrev pub read_told : (refusal place needed : ℕ) → (ℕ → ℕ) → BlendRead
read_told refusal place needed told =
    record {
      refusal = refusal;
      fault_at = place;
      needed = needed;
      edition = told 0;
      pointer_bytes = told 1;
      order = told 2;
      major = told 3;
      minor = told 4;
      rows = told 5;
      end = told 6;
      names = told 7;
      types = told 8;
      structs = told 9;
      fields = told 10;
    }

abbrev pub read_out : Paper → BlendRead
read_out p = read_told (refusal p) (fault_at p) (needed_at p 0) (told_at p)

-- A step of a walk: a place goes in by its offset and whether the block before it is a DNA1, 0 no, any other number yes. Out come 0 for a block, with the numbers of its row,
-- or 1 for the end, with the offset after the end mark; and the place that is handed back.
abbrev pub dna_of : ℕ → Bool
dna_of n = elim (eqb n 0) [ true ↦ false | false ↦ true ]

abbrev pub dna_number : Bool → ℕ
dna_number true = 1
dna_number false = 0

abbrev pub place_from : (at dna : ℕ) → Place
place_from at dna = record { at = at; dna = dna_of dna }

abbrev pub step_told : (refusal place kind : ℕ) → (Column → ℕ) → (end : ℕ) → Place → BlendStep
step_told refusal place kind row end next =
    record {
      refusal = refusal;
      fault_at = place;
      kind = kind;
      code = row Column.code;
      address = row Column.address;
      index = row Column.index;
      count = row Column.count;
      at = row Column.at;
      payload = row Column.payload;
      length = row Column.len;
      end = end;
      next_at = next.at;
      next_dna = dna_number next.dna;
    }

-- which answer it is, and the numbers of one that is of this kind
abbrev pub kind_of : Paper → ℕ
kind_of (accepts k vs) = k
kind_of (integer z) = 0
kind_of (real x) = 0
kind_of (refuses n vs) = 0

abbrev pub told_of : ℕ → Paper → ℕ → ℕ
told_of kind (accepts k vs) i = elim (eqb k kind) [ true ↦ get_or vs i 0 | false ↦ 0 ]
told_of kind (integer z) i = 0
told_of kind (real x) i = 0
told_of kind (refuses n vs) i = 0

abbrev pub step_out : Paper → Place → BlendStep
step_out p next = step_told (refusal p) (fault_at p) (kind_of p) (λ c. told_of 0 p (column_of c)) (told_of 1 p 0) next

-- the place of 16 and 17; the first table that is too short, 1 to 4, and the rows that it needs; the four counts
abbrev pub catalogue_told : (refusal place table needed : ℕ) → (ℕ → ℕ) → BlendCatalogue
catalogue_told refusal place table needed told =
    record { refusal = refusal; fault_at = place; table = table; needed = needed; names = told 0; types = told 1; structs = told 2; fields = told 3 }

abbrev pub catalogue_out : Paper → BlendCatalogue
catalogue_out p = catalogue_told (refusal p) (fault_at p) (needed_at p 0) (needed_at p 1) (told_at p)

-- what `blend_catalogue` promises of a payload's reading: the answer, and the four tables afterwards, as `dna` fills them
pub record Catalogued (o : Outcome Dna) (r : BlendCatalogue) (names types structs fields names' types' structs' fields' : List ℕ) : Type 0 where
  pub answer : r ≡ catalogue_out (read_as o (rooms (length names) (length types) (length structs) (length fields)))
  pub in_names : names' ≡ names_table o (rooms (length names) (length types) (length structs) (length fields)) names
  pub in_types : types' ≡ types_table o (rooms (length names) (length types) (length structs) (length fields)) types
  pub in_structs : structs' ≡ structs_table o (rooms (length names) (length types) (length structs) (length fields)) structs
  pub in_fields : fields' ≡ fields_table o (rooms (length names) (length types) (length structs) (length fields)) fields

-- A declarator's kind (0 value, 1 array, 2 pointer, 3 pointer array, 4 function pointer), the places of its name and its rest, and indirection, length and
-- number of dimensions, each where the kind has it: 0, 1 and 0 where it has not.
abbrev pub indirection_of : ℕ → List ℕ → ℕ
indirection_of kind vs = elim (eqb kind 2) [ true ↦ get_or vs 4 0 | false ↦ elim (eqb kind 3) [ true ↦ get_or vs 4 0 | false ↦ 0 ] ]

abbrev pub length_of : ℕ → List ℕ → ℕ
length_of kind vs = elim (eqb kind 1) [ true ↦ get_or vs 4 0 | false ↦ elim (eqb kind 3) [ true ↦ get_or vs 5 0 | false ↦ 1 ] ]

abbrev pub dimensions_of : ℕ → List ℕ → ℕ
dimensions_of kind vs = elim (eqb kind 1) [ true ↦ get_or vs 5 0 | false ↦ elim (eqb kind 3) [ true ↦ get_or vs 6 0 | false ↦ 0 ] ]

abbrev pub field_told : (refusal needed kind : ℕ) → List ℕ → (indirection length dimensions : ℕ) → BlendField
field_told refusal needed kind vs indirection length dimensions =
    record {
      refusal = refusal;
      needed = needed;
      kind = kind;
      name_at = get_or vs 0 0;
      name_length = get_or vs 1 0;
      rest_at = get_or vs 2 0;
      rest_length = get_or vs 3 0;
      indirection = indirection;
      length = length;
      dimensions = dimensions;
    }

abbrev pub field_out : Paper → BlendField
field_out (accepts kind vs) = field_told 0 0 kind vs (indirection_of kind vs) (length_of kind vs) (dimensions_of kind vs)
field_out (integer z) = field_told 0 0 0 [] 0 0 0
field_out (real x) = field_told 0 0 0 [] 0 0 0
field_out (refuses n vs) = field_told n (get_or vs 0 0) 0 [] 0 0 0

-- The way back, for a width: the declarator that the numbers stand for. A number that is no kind stands for a value, and numbers that the kind does not have for nothing.
abbrev pub info_of : (kind indirection length dimensions : ℕ) → FieldInfo
info_of kind indirection length dimensions =
    elim (eqb kind 1) [
      | true ↦ FieldInfo.ValueArray length dimensions
      | false ↦ elim (eqb kind 2) [
        | true ↦ FieldInfo.Pointer indirection
        | false ↦ elim (eqb kind 3) [ true ↦ FieldInfo.PointerArray indirection length dimensions | false ↦ elim (eqb kind 4) [ true ↦ FieldInfo.FnPointer | false ↦ FieldInfo.Value ] ]
      ]
    ]

abbrev pub declarator_of : BlendField → Declarator
declarator_of f =
    record {
      name = record { at = f.name_at; len = f.name_length };
      rest = record { at = f.rest_at; len = f.rest_length };
      kind = info_of f.kind f.indirection f.length f.dimensions;
    }

-- The width of what `blend_field` told. Where it refused the name there is no declarator to ask, and neither document says what a width is then: 15 is decided here.
abbrev pub width_of : BlendField → ℕ → PointerSize → Paper
width_of f size p = elim (eqb f.refusal 0) [ true ↦ width_as (declarator_of f) size p | false ↦ name_not_fully_read ]

-- a pointer size by its bytes: 4, any other 8
abbrev pub size_of : ℕ → PointerSize
size_of bytes = elim (eqb bytes 4) [ true ↦ Bits32 | false ↦ Bits64 ]

-- a payload's offset and length
abbrev pub view_out : Paper → (at length : ℕ) → BlendView
view_out (accepts k vs) at length = record { refusal = 0; at = at; length = length }
view_out (integer z) at length = record { refusal = 0; at = 0; length = 0 }
view_out (real x) at length = record { refusal = 0; at = 0; length = 0 }
view_out (refuses n vs) at length = record { refusal = n; at = 0; length = 0 }

-- 0 Null, 1 found, with the row, 2 Missing
abbrev pub pointer_out : Paper → BlendPointer
pointer_out (accepts k vs) = record { refusal = 0; kind = k; row = get_or vs 0 0 }
pointer_out (integer z) = record { refusal = 0; kind = 0; row = 0 }
pointer_out (real x) = record { refusal = 0; kind = 0; row = 0 }
pointer_out (refuses n vs) = record { refusal = n; kind = 0; row = 0 }

-- of 14 the buckets and the rows needed
abbrev pub index_out : Paper → BlendIndex
index_out p = record { refusal = refusal p; buckets = carried p 0; rows = carried p 1 }

-- the same; and 0 Null, 1 found, with the row, 2 Missing
abbrev pub found_out : Paper → BlendFound
found_out (accepts k vs) = record { refusal = 0; buckets = 0; rows = 0; kind = k; row = get_or vs 0 0 }
found_out (integer z) = record { refusal = 0; buckets = 0; rows = 0; kind = 0; row = 0 }
found_out (real x) = record { refusal = 0; buckets = 0; rows = 0; kind = 0; row = 0 }
found_out (refuses n vs) = record { refusal = n; buckets = get_or vs 0 0; rows = get_or vs 1 0; kind = 0; row = 0 }

-- The header that numbers stand for, for writing: those that `header_out` hands out stand for that header. An edition that is neither 0 nor 1, pointer bytes that are neither
-- 4 nor 8, an order that is neither 0 nor 1 and a part of a version above 65,535 stand for nothing, and no form has room for them: the header is then one with a part of its
-- version 65,535, so it is refused by 19 with the row count, after whatever comes before 19. Until then an edition but 0 counts as new, and pointer bytes and order as above.
-- (proofs/Written.antt has both.)
abbrev pub format_of : ℕ → FileFormat
format_of n = elim (eqb n 0) [ true ↦ Legacy | false ↦ New ]

abbrev pub is_form : (edition bytes order : ℕ) → Bool
is_form edition bytes order = leb edition 1 && leb order 1 && (eqb bytes 4 || eqb bytes 8)

abbrev pub capped : ℕ → ℕ
capped n = elim (ltb n 65535) [ true ↦ n | false ↦ 65535 ]

abbrev pub version_of : Bool → (major minor : ℕ) → Version
version_of true major minor = record { major = capped major; minor = capped minor }
version_of false major minor = record { major = 65535; minor = 65535 }

abbrev pub header_of : (edition bytes order major minor : ℕ) → Header
header_of edition bytes order major minor =
    record { pointer_size = size_of bytes; endianness = order_of order; version = version_of (is_form edition bytes order) major minor; format = format_of edition }

-- the place of 16 and 17, the bytes needed of 18, the row of 19; and the bytes written
abbrev pub carried_of : ℕ → Paper → ℕ
carried_of n p = elim (eqb (refusal p) n) [ true ↦ carried p 0 | false ↦ 0 ]

abbrev pub written_out : Paper → BlendWritten
written_out p = record { refusal = refusal p; fault_at = fault_at p; needed = carried_of 18 p; row = carried_of 19 p; written = told_at p 0 }

-- a width, or a value's bits as an unsigned number
abbrev pub value_out : Paper → BlendValue
value_out p = record { refusal = refusal p; value = told_at p 0 }
