-- What each public call promises, by its name (crates/octets/specs/Calls.antt says how to read it).
use Rattle.std.specs.Prelude.{ℕ, ℤ, List, ◌≡◌, Float, Result}
use Rattle.std.specs.Float.{binary32, binary64}
use Rattle.octets.specs.declared.Endianness.{Endianness}
use Rattle.octets.specs.declared.Refusal.{Refusal}
use Rattle.primitive.specs.declared.primitive.FloatRead.{FloatRead}
use Rattle.octets.specs.Ascii.{ascii}
use Rattle.octets.specs.Paper.Paper.{integer}
use Rattle.octets.specs.Refusals.{paper_answer}
use Rattle.primitive.specs.Primitive.{value_of, unsigned, signed, float, paper_float}

abbrev pub primitive::parse_u8 : (slice : List ℕ) (endianness : Endianness) → Result ℕ Refusal → Type 0
primitive::parse_u8 slice endianness r = paper_answer unsigned r ≡ value_of 1 unsigned endianness slice

abbrev pub primitive::parse_u16 : (slice : List ℕ) (endianness : Endianness) → Result ℕ Refusal → Type 0
primitive::parse_u16 slice endianness r = paper_answer unsigned r ≡ value_of 2 unsigned endianness slice

abbrev pub primitive::parse_u32 : (slice : List ℕ) (endianness : Endianness) → Result ℕ Refusal → Type 0
primitive::parse_u32 slice endianness r = paper_answer unsigned r ≡ value_of 4 unsigned endianness slice

abbrev pub primitive::parse_u64 : (slice : List ℕ) (endianness : Endianness) → Result ℕ Refusal → Type 0
primitive::parse_u64 slice endianness r = paper_answer unsigned r ≡ value_of 8 unsigned endianness slice

abbrev pub primitive::parse_char : (slice : List ℕ) (endianness : Endianness) → Result ℕ Refusal → Type 0
primitive::parse_char slice endianness r = paper_answer unsigned r ≡ value_of 1 unsigned endianness slice

abbrev pub primitive::parse_i8 : (slice : List ℕ) (endianness : Endianness) → Result ℤ Refusal → Type 0
primitive::parse_i8 slice endianness r = paper_answer integer r ≡ value_of 1 (signed 8) endianness slice

abbrev pub primitive::parse_i16 : (slice : List ℕ) (endianness : Endianness) → Result ℤ Refusal → Type 0
primitive::parse_i16 slice endianness r = paper_answer integer r ≡ value_of 2 (signed 16) endianness slice

abbrev pub primitive::parse_i32 : (slice : List ℕ) (endianness : Endianness) → Result ℤ Refusal → Type 0
primitive::parse_i32 slice endianness r = paper_answer integer r ≡ value_of 4 (signed 32) endianness slice

abbrev pub primitive::parse_i64 : (slice : List ℕ) (endianness : Endianness) → Result ℤ Refusal → Type 0
primitive::parse_i64 slice endianness r = paper_answer integer r ≡ value_of 8 (signed 64) endianness slice

abbrev pub primitive::parse_f32 : (slice : List ℕ) (endianness : Endianness) → Result (FloatRead Float ℕ) Refusal → Type 0
primitive::parse_f32 slice endianness r = paper_answer paper_float r ≡ value_of 4 (float binary32) endianness slice

abbrev pub primitive::parse_f64 : (slice : List ℕ) (endianness : Endianness) → Result (FloatRead Float ℕ) Refusal → Type 0
primitive::parse_f64 slice endianness r = paper_answer paper_float r ≡ value_of 8 (float binary64) endianness slice

abbrev pub primitive::blender_name_char : List ℕ → Type 0
primitive::blender_name_char r = r ≡ ascii "char"

abbrev pub primitive::blender_name_i8 : List ℕ → Type 0
primitive::blender_name_i8 r = r ≡ ascii "char"

abbrev pub primitive::blender_name_u8 : List ℕ → Type 0
primitive::blender_name_u8 r = r ≡ ascii "uchar"

abbrev pub primitive::blender_name_u16 : List ℕ → Type 0
primitive::blender_name_u16 r = r ≡ ascii "ushort"

abbrev pub primitive::blender_name_i16 : List ℕ → Type 0
primitive::blender_name_i16 r = r ≡ ascii "short"

abbrev pub primitive::blender_name_i32 : List ℕ → Type 0
primitive::blender_name_i32 r = r ≡ ascii "int"

abbrev pub primitive::blender_name_u32 : List ℕ → Type 0
primitive::blender_name_u32 r = r ≡ ascii "ulong"

abbrev pub primitive::blender_name_f32 : List ℕ → Type 0
primitive::blender_name_f32 r = r ≡ ascii "float"

abbrev pub primitive::blender_name_f64 : List ℕ → Type 0
primitive::blender_name_f64 r = r ≡ ascii "double"

abbrev pub primitive::blender_name_u64 : List ℕ → Type 0
primitive::blender_name_u64 r = r ≡ ascii "uint64_t"

abbrev pub primitive::blender_name_i64 : List ℕ → Type 0
primitive::blender_name_i64 r = r ≡ ascii "int64_t"
