-- Sentences of documents 01 and 02 that no single contract says: each is a law of the contracts of the calls that it speaks of.
use Rattle.std.specs.Prelude.{ℕ, ◌<◌, List, [], ◌∷◌, ◌≡◌, Float, length, take, Result, Ok, Err, Option, Some, None}
use Rattle.std.specs.Borrow.{Bor}
use Rattle.std.specs.Float.{binary32, binary64}
use Rattle.std.specs.Float.Ieee.{to_bits}
use Rattle.octets.specs.declared.Endianness.{Endianness}
use Rattle.octets.specs.declared.Endianness.TheVariants.{Big}
use Rattle.primitive.specs.declared.primitive.FloatRead.{FloatRead}
use Rattle.octets.specs.declared.PointerSize.{PointerSize}
use Rattle.octets.specs.Ascii.{ascii}
use Rattle.octets.specs.Refusals.{number_of, name_not_fully_read}
use Rattle.primitive.specs.Calls as primitive
use Rattle.octets.specs.Number.{Bytes, spelled}
use Rattle.field.specs.declared.field.Declarator.{Declarator}
use Rattle.octets.specs.declared.Refusal.{Refusal}
use Rattle.field.specs.declared.field.FieldError.{FieldError}
use Rattle.field.specs.Declarators.{paper_width}
use Rattle.field.specs.Former.{former_width_as}
use Rattle.field.specs.Calls as field
use Rattle.block.specs.declared.Kind.{Kind}
use Rattle.block.specs.declared.Row.{Row}
use Rattle.blend.specs.declared.blend.RawBlend.{RawBlend}
use Rattle.blend.specs.declared.blend.BlendError.{BlendError}
use Rattle.block.specs.Kinds.{kind_of}
use Rattle.blend.specs.Calls as blend
use Rattle.walker.specs.Calls as walker
use Rattle.block.specs.Rows.{row_table, spelt}
use Rattle.walker.specs.Walker.{start, Stop, Walk}
use Rattle.walker.specs.Walker.Stop.{ended, refused}
use Rattle.runtime.specs.declared.runtime.Pointer.{Pointer}
use Rattle.runtime.specs.Addresses.{paper_pointer}
use Rattle.runtime.specs.Calls as runtime
use Rattle.index.specs.declared.index.IndexError.{IndexError}
use Rattle.index.specs.Index.{paper_found}
use Rattle.index.specs.Calls as index
use Rattle.exports.specs.declared.BlendField.{BlendField}
use Rattle.exports.specs.declared.BlendValue.{BlendValue}
use Rattle.exports.specs.Calls as exports
use Rattle.exports.specs.Exports.{declarator_of, size_of, value_out}
use Rattle.held.specs.declared.Walker.{Walker}
use Rattle.held.specs.Calls as held
use Rattle.held.specs.Walks.{HeldWalk}
use Rattle.demands.specs.Answers.{rows_in}

-- The walker: "From the start it gives the blocks' rows in order, then the offset after the end mark, or the reader's refusal (6 included, 7 never)." The refusal is the
-- reader's with its place. Where the table is too short for the reader, the walk has the rows that 7 says are needed.
abbrev pub WalkBy : (List Row → Stop → Type 0) → Result RawBlend BlendError → List ℕ → Type 0
WalkBy walk (Ok b) t' = walk (rows_in t' b.rows) (ended b.end)
WalkBy walk (Err (BlendError.Fault x)) t' = (rows : List Row) × walk rows (refused x)
WalkBy walk (Err (BlendError.TableTooShort n)) t' = (rows : List Row) × (end : ℕ) × (length rows ≡ n) × walk rows (ended end)

abbrev pub WalksAsRead : Type 0
WalksAsRead = (s t t' : List ℕ) (r : Result RawBlend BlendError) → blend.«blend::blend» s t r t' → WalkBy (Walk (λ p x. walker.«Place::step» p s x) start) r t'

abbrev pub HeldWalksAsRead : Type 0
HeldWalksAsRead = (file : Bor (List ℕ)) (w : Walker) → held.over file w → (t t' : List ℕ) (r : Result RawBlend BlendError) → blend.«blend::blend» file.now t r t' → WalkBy (HeldWalk w) r t'

-- Address lookup "over a slice of row structs, one loop, answering as the version over numbers": of a table and the rows that it spells, and of rows and the table
-- of their numbers.
pub record OneSearch : Type 0 where
  pub of-table : (t : List ℕ) (n address : ℕ) (r q : Result Pointer Refusal) → held.find_row (spelt t) n address r → runtime.runtime::get_ptr t n address q → r ≡ q
  pub of-rows : (rows : List Row) (n address : ℕ) (r q : Result Pointer Refusal) → held.find_row rows n address r → runtime.runtime::get_ptr (row_table rows) n address q → r ≡ q

-- The index (request 1): "A lookup through it answers as the plain lookup does for every address .. where it was built from those rows with that bucket count". What
-- counts of the index tables are the first numbers, as the building left them.
abbrev pub IndexAsPlain : Type 0
IndexAsPlain =
    (t : List ℕ) (rows buckets : ℕ) (heads links heads' links' : List ℕ) → index.«index::build» t rows buckets heads links (Ok tt) heads' links'
    → (u firsts nexts : List ℕ) → rows_in u rows ≡ rows_in t rows → take buckets firsts ≡ take buckets heads' → take rows nexts ≡ take rows links'
    → (address : ℕ) (r : Result Pointer IndexError) (q : Result Pointer Refusal) → index.«index::find» u rows buckets firsts nexts address r → runtime.runtime::get_ptr u rows address q
    → paper_found r ≡ paper_pointer q

-- A broken name (request 2): "A declarator with a non-empty rest has no width", whatever its kind, and is refused by 15; where the rest is empty the width is what it was
-- before that request (`former_width_as`). Document 02's own example, "mat[4", is read, and has no width.
pub record BrokenNames : Type 0 where
  pub whole : (d : Declarator) (size : ℕ) (p : PointerSize) (r : Result ℕ Refusal) → field.«field::width» d size p r → d.rest.len ≡ 0 → paper_width r ≡ former_width_as d size p
  pub broken : (d : Declarator) (size : ℕ) (p : PointerSize) (r : Result ℕ Refusal) → field.«field::width» d size p r → (d.rest.len ≡ 0 → ⊥) → paper_width r ≡ name_not_fully_read
  pub example : (t u : List ℕ) (q : Result Declarator FieldError) → field.field::parse_field (ascii "mat[4") t q u
      → (d : Declarator) × (q ≡ Ok d) × ((size : ℕ) (p : PointerSize) (r : Result ℕ Refusal) → field.«field::width» d size p r → paper_width r ≡ name_not_fully_read)

-- For other languages a width is asked of a struct of numbers, as `blend_field` tells a declarator. Of any struct without a refusal it is the width of the declarator that the
-- numbers stand for; that one with a refusal has none, and 15 for it, is decided here. What `blend_field` tells of a name stands for what `parse_field` answers.
abbrev pub StandsFor : BlendField → Result Declarator FieldError → Type 0
StandsFor f (Ok d) = (f.refusal ≡ 0) × (declarator_of f ≡ d)
StandsFor f (Err (FieldError.Refusal r)) = (f.refusal ≡ number_of r) × (number_of r ≡ 0 → ⊥)
StandsFor f (Err (FieldError.DimensionTableTooShort n)) = (f.refusal ≡ 11) × (f.needed ≡ n)

pub record WidthsExported : Type 0 where
  pub told : (name t t' u : List ℕ) (f : BlendField) (q : Result Declarator FieldError) → exports.blend_field name t f t' → field.field::parse_field name t q u → StandsFor f q
  pub of-told : (f : BlendField) (size bytes : ℕ) (w : BlendValue) (r : Result ℕ Refusal)
      → exports.blend_width f size bytes w → field.«field::width» (declarator_of f) size (size_of bytes) r → f.refusal ≡ 0 → w ≡ value_out (paper_width r)
  pub of-refused : (f : BlendField) (size bytes : ℕ) (w : BlendValue) → exports.blend_width f size bytes w → (f.refusal ≡ 0 → ⊥) → w ≡ value_out name_not_fully_read

-- Primitive values: "Floats are compared by their bits." The bits of a float that is answered are those that were read, and so are a NaN's.
pub record FloatBits : Type 0 where
  pub of_32 : (slice : List ℕ) (e : Endianness) → Bytes slice → (x : Float) → primitive.primitive::parse_f32 slice e (Ok (FloatRead.Is x)) → to_bits binary32 x ≡ spelled e (take 4 slice)
  pub nan_32 : (slice : List ℕ) (e : Endianness) (n : ℕ) → primitive.primitive::parse_f32 slice e (Ok (FloatRead.Nan n)) → n ≡ spelled e (take 4 slice)
  pub of_64 : (slice : List ℕ) (e : Endianness) → Bytes slice → (x : Float) → primitive.primitive::parse_f64 slice e (Ok (FloatRead.Is x)) → to_bits binary64 x ≡ spelled e (take 8 slice)
  pub nan_64 : (slice : List ℕ) (e : Endianness) (n : ℕ) → primitive.primitive::parse_f64 slice e (Ok (FloatRead.Nan n)) → n ≡ spelled e (take 8 slice)

-- "The code asked of a block is its 4 bytes; of a DATA block, none." And none of a number that is no block code.
abbrev pub code_of : Kind → (a b c d : ℕ) → Option (List ℕ)
code_of Kind.Rend a b c d = Some (a ∷ b ∷ c ∷ d ∷ [])
code_of Kind.Test a b c d = Some (a ∷ b ∷ c ∷ d ∷ [])
code_of Kind.Global a b c d = Some (a ∷ b ∷ c ∷ d ∷ [])
code_of Kind.Subsidiary a b c d = None
code_of Kind.Principal a b c d = Some (a ∷ b ∷ c ∷ d ∷ [])
code_of Kind.Dna a b c d = Some (a ∷ b ∷ c ∷ d ∷ [])
code_of Kind.Unknown a b c d = None

abbrev pub CodeBytes : Type 0
CodeBytes =
    (a b c d : ℕ) → a < 256 → b < 256 → c < 256 → d < 256 → (r : Option (List ℕ)) → runtime.«runtime::code» (spelled Big (a ∷ b ∷ c ∷ d ∷ [])) r
    → r ≡ code_of (kind_of (spelled Big (a ∷ b ∷ c ∷ d ∷ []))) a b c d

-- The names of `blender_name` ("u32 is "ulong"; `char` and i8 are both "char""): its bytes spell the name.
abbrev pub Spells : (List ℕ → Type 0) → List ℕ → Type 0
Spells contract name = (r : List ℕ) → contract r → r ≡ name

pub record Names : Type 0 where
  pub of_char : Spells primitive.primitive::blender_name_char (ascii "char")
  pub of_i8 : Spells primitive.primitive::blender_name_i8 (ascii "char")
  pub of_u8 : Spells primitive.primitive::blender_name_u8 (ascii "uchar")
  pub of_u16 : Spells primitive.primitive::blender_name_u16 (ascii "ushort")
  pub of_i16 : Spells primitive.primitive::blender_name_i16 (ascii "short")
  pub of_i32 : Spells primitive.primitive::blender_name_i32 (ascii "int")
  pub of_u32 : Spells primitive.primitive::blender_name_u32 (ascii "ulong")
  pub of_f32 : Spells primitive.primitive::blender_name_f32 (ascii "float")
  pub of_f64 : Spells primitive.primitive::blender_name_f64 (ascii "double")
  pub of_u64 : Spells primitive.primitive::blender_name_u64 (ascii "uint64_t")
  pub of_i64 : Spells primitive.primitive::blender_name_i64 (ascii "int64_t")
