-- What the passes over a catalogue ensure, and how their answers stand to the tree. No rule uses it.
use Rattle.std.specs.Prelude.{ℕ, ◌+◌, ◌*◌, ◌-◌, ◌/◌, ◌≤◌, true, false, List, ◌≡◌, leb, length, Result, Ok, Err}
use Rattle.octets.specs.declared.Endianness.{Endianness}
use Rattle.octets.specs.declared.Fault.{Fault}
use Rattle.octets.specs.declared.Fault.TheVariants.{Cut}
use Rattle.octets.specs.declared.cursor.Cursor.{Cursor}
use Rattle.octets.specs.Helpers.{leading}
use Rattle.octets.specs.Reader.{Outcome}
use Rattle.octets.specs.Reader.Outcome.{read, fault}
use Rattle.dna.specs.declared.dna.DnaCounts.{DnaCounts}
use Rattle.dna.specs.declared.dna.Layout.{Layout}
use Rattle.dna.specs.declared.dna.Span.{Span}
use Rattle.dna.specs.declared.dna.TypeNumber.{TypeNumber}
use Rattle.dna.specs.Catalogue.{Text, Struct, Dna, Rooms, text, size, field, struct, field_count}

-- what stands at a list that was found: texts, structs, and fields; and m sizes from a place on
abbrev pub texts_of : List ℕ → Span → List Text
texts_of s p = leading p.count text s p.at

abbrev pub structs_of : Endianness → List ℕ → Span → List Struct
structs_of e s p = leading p.count (struct e) s p.at

abbrev pub fields_of : Endianness → List ℕ → Span → List (ℕ × ℕ)
fields_of e s p = leading p.count (field e) s p.at

abbrev pub sizes_of : Endianness → List ℕ → ℕ → ℕ → List ℕ
sizes_of e s m at = leading m (size e) s at

-- a list of strings: where they stand, and the place after the padding
abbrev pub ListedIs : List ℕ → Result (Span × Cursor) Fault → Outcome (List Text) → Type 0
ListedIs s (Ok (p, c)) o = (o ≡ read (texts_of s p) c.at) × (length (texts_of s p) ≡ p.count)
ListedIs s (Err f) o = o ≡ fault f

-- the sizes of m types: where they start, and the place after the padding
abbrev pub SizedIs : Endianness → ℕ → List ℕ → Result (ℕ × Cursor) Fault → Outcome (List ℕ) → Type 0
SizedIs e m s (Ok (at, c)) o = (o ≡ read (sizes_of e s m at) c.at) × (length (sizes_of e s m at) ≡ m)
SizedIs e m s (Err f) o = o ≡ fault f

-- how many numbers of two bytes stand from a place on, one after another
abbrev pub shorts_from : List ℕ → ℕ → ℕ
shorts_from s at = (length s - at) / 2

-- past n of them, or where the first stands that is not there
abbrev pub shorts_past : List ℕ → ℕ → ℕ → Outcome (Unit {0})
shorts_past s n at = elim (leb n (shorts_from s at)) [ true ↦ read tt (at + 2 * n) | false ↦ fault (Cut (at + 2 * shorts_from s at)) ]

-- a struct without its fields: its type number and how many they are
abbrev pub headed : Outcome Struct → Outcome (ℕ × ℕ)
headed (read t next) = read (t.0, length t.1) next
headed (fault f) = fault f

abbrev pub OneStructIs : List ℕ → ℕ → Result (TypeNumber × ℕ × Cursor) Fault → Outcome Struct → Type 0
OneStructIs s at (Ok (t, n, c)) o = (headed o ≡ read (t.0, n) c.at) × (c.at ≡ at + 4 + 4 * n) × (c.at ≤ length s)
OneStructIs s at (Err f) o = o ≡ fault f

-- all structs after some that had k fields: how many they have together
abbrev pub totalled : ℕ → Outcome (List Struct) → Outcome ℕ
totalled k (read ts next) = read (k + field_count ts) next
totalled k (fault f) = fault f

-- the structs: where they stand, how many fields they have together, and the place after them
abbrev pub StructsAre : Endianness → List ℕ → Result (Span × ℕ × Cursor) Fault → Outcome (List Struct) → Type 0
StructsAre e s (Ok (p, fields, c)) o = (o ≡ read (structs_of e s p) c.at) × (length (structs_of e s p) ≡ p.count) × (field_count (structs_of e s p) ≡ fields)
StructsAre e s (Err f) o = o ≡ fault f

-- a catalogue by its places: what stands there, and its counts
abbrev pub dna_at : Endianness → List ℕ → Layout → Dna
dna_at e s l = record { names = texts_of s l.names; types = texts_of s l.types; sizes = sizes_of e s l.types.count l.sizesat; structs = structs_of e s l.structs }

abbrev pub counts_of : Layout → DnaCounts
counts_of l = record { names = l.names.count; types = l.types.count; structs = l.structs.count; fields = l.fields }

-- the whole of a catalogue was found at these places, and they have these numbers
pub record Whole (e : Endianness) (s : List ℕ) (l : Layout) (o : Outcome Dna) : Type 0 where
  pub found : o ≡ read (dna_at e s l) l.end
  pub names_are : length (texts_of s l.names) ≡ l.names.count
  pub types_are : length (texts_of s l.types) ≡ l.types.count
  pub sizes_are : length (sizes_of e s l.types.count l.sizesat) ≡ l.types.count
  pub structs_are : length (structs_of e s l.structs) ≡ l.structs.count
  pub fields_are : field_count (structs_of e s l.structs) ≡ l.fields

abbrev pub LaidIs : Endianness → List ℕ → Result Layout Fault → Outcome Dna → Type 0
LaidIs e s (Ok l) o = Whole e s l o
LaidIs e s (Err f) o = o ≡ fault f

-- no table is too short: each has its rows
pub record AllFit (n : DnaCounts) (r : Rooms) : Type 0 where
  pub names_fit : n.names ≤ r.names
  pub types_fit : n.types ≤ r.types
  pub structs_fit : n.structs ≤ r.structs
  pub fields_fit : n.fields ≤ r.fields
