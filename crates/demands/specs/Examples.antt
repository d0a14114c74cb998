-- Examples at the edges: those that document 01 marks with P, as one list, and those of request 3 of document 02, with one claim, of what the calls answer; and the
-- scenes that the demands are tried on.
use Rattle.std.specs.Prelude.{ℕ, ◌+◌, ◌-◌, List, [], ◌∷◌, ◌++◌, ◌≡◌, replicate, Result, Ok}
use Rattle.octets.specs.declared.Endianness.{Endianness}
use Rattle.octets.specs.declared.Endianness.TheVariants.{Little, Big}
use Rattle.octets.specs.declared.PointerSize.{PointerSize}
use Rattle.octets.specs.declared.PointerSize.TheVariants.{Bits32, Bits64}
use Rattle.octets.specs.Ascii.{ascii}
use Rattle.octets.specs.Paper.{Paper}
use Rattle.octets.specs.Paper.Paper.{refuses}
use Rattle.octets.specs.Tables.{over}
use Rattle.field.specs.declared.field.Declarator.{Declarator}
use Rattle.octets.specs.declared.Fault.{Fault}
use Rattle.field.specs.declared.field.FieldError.{FieldError}
use Rattle.field.specs.Calls.{field::fn_pointer, field::parse_field}
use Rattle.field.specs.Declarators.{told_as, paper_field, paper_function}
use Rattle.header.specs.declared.FileFormat.{FileFormat}
use Rattle.header.specs.declared.FileFormat.TheVariants.{Legacy, New}
use Rattle.header.specs.declared.Header.{Header}
use Rattle.header.specs.declared.Version.{Version}
use Rattle.blend.specs.declared.blend.RawBlend.{RawBlend}
use Rattle.blend.specs.declared.blend.BlendError.{BlendError}
use Rattle.header.specs.Calls.{«blend::header»}
use Rattle.blend.specs.Calls.{«blend::blend»}
use Rattle.blend.specs.Chain.{paper_blend}

pub data Example : Type 0 where
  file : List ℕ → Paper → Example  -- a file, and what the reader answers
  version : List ℕ → (major minor : ℕ) → Example  -- a header with these version bytes, and the version
  declarator : List ℕ → Paper → List ℕ → Example  -- a field's name, what is answered with a table of 2 numbers, and the dimensions
  function : List ℕ → Paper → Example  -- a field's name, and what is answered of it as a function pointer

abbrev pub Holds : Example → Type 0
Holds (file s answer) = (t t' : List ℕ) (r : Result RawBlend BlendError) → «blend::blend» s t r t' → paper_blend r ≡ answer
Holds (version s major minor) =
    (r : Result (Header × ℕ) Fault) → «blend::header» s r → (h : Header) × (at : ℕ) × (r ≡ Ok (h, at)) × (h.version ≡ record { major = major; minor = minor })
Holds (declarator s answer dimensions) =
    (r : Result Declarator FieldError) (t' : List ℕ) → field::parse_field s (9 ∷ 9 ∷ []) r t' → (paper_field r ≡ answer) × (t' ≡ over dimensions (9 ∷ 9 ∷ []))
Holds (function s answer) = (r : Result Declarator Fault) → field::fn_pointer s r → paper_function r ≡ answer

abbrev pub All : List Example → Type 0
All [] = Unit {0}
All (e ∷ es) = Holds e × All es

-- a Legacy file of 64 bits in the little order with one block: code of four zeros, size 0, address 1, index 0, count 2
abbrev pub two_of_one : List ℕ
two_of_one = ascii "BLENDER-v280" ++ (0 ∷ 0 ∷ 0 ∷ 0 ∷ 0 ∷ 0 ∷ 0 ∷ 0 ∷ 1 ∷ 0 ∷ 0 ∷ 0 ∷ 0 ∷ 0 ∷ 0 ∷ 0 ∷ 0 ∷ 0 ∷ 0 ∷ 0 ∷ 2 ∷ 0 ∷ 0 ∷ 0 ∷ [])

-- In the order of document 01, whose 2 is 16 or 17 with its place (request 3 of document 02). Of a declarator `told_as` has the kind (0 value, 1 array, 3 pointer array, 4 function pointer), the name's place and length, the
-- rest's, and the kind's own numbers: indirection, length and number of dimensions, those it has.
abbrev pub examples : List Example
examples =
    file (ascii "BLENDE") (refuses 1 [])
    ∷ file (ascii "BLENDER") (refuses 16 (7 ∷ []))
    ∷ version (ascii "BLENDER17-01v0501") 5 1
    ∷ version (ascii "BLENDER-v2x0") 0 20
    ∷ file two_of_one (refuses 4 [])
    ∷ declarator (ascii "a[3") (told_as 1 (0, 1) (1, 2) (1 ∷ 0 ∷ [])) []
    ∷ declarator (ascii "a[]") (refuses 9 []) []
    ∷ declarator (ascii "a[+3]") (told_as 1 (0, 1) (5, 0) (3 ∷ 1 ∷ [])) (3 ∷ [])
    ∷ declarator (ascii "*m[2][3]") (told_as 3 (1, 1) (8, 0) (1 ∷ 6 ∷ 2 ∷ [])) (2 ∷ 3 ∷ [])
    ∷ declarator (ascii "(*f)") (told_as 0 (0, 4) (4, 0) []) []
    ∷ declarator (ascii "(*f)()") (told_as 4 (2, 1) (6, 0) []) []
    ∷ declarator (ascii "") (told_as 0 (0, 0) (0, 0) []) []
    ∷ []

-- Document 01's scene with a second object, whose block header is the first one's: the payloads of both objects, 4 bytes each, in the place of "hull"; 4 bytes
-- in that of the catalogue's mark "TYPE"; and bytes after the end mark.
unfoldable pub scene : List ℕ → List ℕ → List ℕ → List ℕ → List ℕ
scene one other mark after =
    ascii "BLENDER-v280"
    ++ ascii "OB" ++ (0 ∷ 0 ∷ 4 ∷ 0 ∷ 0 ∷ 0 ∷ 16 ∷ 0 ∷ 0 ∷ 0 ∷ 0 ∷ 0 ∷ 0 ∷ 0 ∷ 3 ∷ 0 ∷ 0 ∷ 0 ∷ 1 ∷ 0 ∷ 0 ∷ 0 ∷ []) ++ one
    ++ ascii "OB" ++ (0 ∷ 0 ∷ 4 ∷ 0 ∷ 0 ∷ 0 ∷ 16 ∷ 0 ∷ 0 ∷ 0 ∷ 0 ∷ 0 ∷ 0 ∷ 0 ∷ 3 ∷ 0 ∷ 0 ∷ 0 ∷ 1 ∷ 0 ∷ 0 ∷ 0 ∷ []) ++ other
    ++ ascii "DNA1" ++ (52 ∷ 0 ∷ 0 ∷ 0 ∷ 32 ∷ 0 ∷ 0 ∷ 0 ∷ 0 ∷ 0 ∷ 0 ∷ 0 ∷ 0 ∷ 0 ∷ 0 ∷ 0 ∷ 1 ∷ 0 ∷ 0 ∷ 0 ∷ [])
    ++ ascii "SDNANAME" ++ (1 ∷ 0 ∷ 0 ∷ 0 ∷ 120 ∷ 0 ∷ 0 ∷ 0 ∷ []) ++ mark ++ (1 ∷ 0 ∷ 0 ∷ 0 ∷ []) ++ ascii "int" ++ (0 ∷ [])
    ++ ascii "TLEN" ++ (4 ∷ 0 ∷ 0 ∷ 0 ∷ []) ++ ascii "STRC" ++ (1 ∷ 0 ∷ 0 ∷ 0 ∷ 0 ∷ 0 ∷ 1 ∷ 0 ∷ 0 ∷ 0 ∷ 0 ∷ 0 ∷ [])
    ++ ascii "ENDB" ++ after

-- Why a file is malformed, and where (request 3 of document 02): in the header, at a boundary, in a block, in a catalogue that is inside a file (a mark, and a payload that ends
-- too early), and in a function pointer. `DNA1` has 3 bytes of payload, though the file goes on.
abbrev pub short_catalogue : List ℕ
short_catalogue =
    ascii "BLENDER-v280DNA1" ++ (3 ∷ 0 ∷ 0 ∷ 0 ∷ 32 ∷ 0 ∷ 0 ∷ 0 ∷ 0 ∷ 0 ∷ 0 ∷ 0 ∷ 0 ∷ 0 ∷ 0 ∷ 0 ∷ 1 ∷ 0 ∷ 0 ∷ 0 ∷ []) ++ ascii "SDNANAMEENDB"

abbrev pub malformed : List Example
malformed =
    file (ascii "BLENDER-") (refuses 16 (8 ∷ []))
    ∷ file (ascii "BLENDER-x") (refuses 17 (8 ∷ []))
    ∷ file (ascii "BLENDER-v28") (refuses 16 (9 ∷ []))
    ∷ file (ascii "BLENDER17") (refuses 16 (9 ∷ []))
    ∷ file (ascii "BLENDER17x") (refuses 17 (9 ∷ []))
    ∷ file (ascii "BLENDER-v280") (refuses 16 (12 ∷ []))
    ∷ file (ascii "BLENDER-v280EN") (refuses 16 (12 ∷ []))
    ∷ file (ascii "BLENDER-v280OB") (refuses 16 (12 ∷ []))
    ∷ file (ascii "BLENDER-v280DATA") (refuses 16 (16 ∷ []))
    ∷ file short_catalogue (refuses 16 (36 ∷ []))
    ∷ file (scene (ascii "hull") (ascii "hull") (ascii "TYPO") []) (refuses 17 (108 ∷ []))
    ∷ function (ascii "x") (refuses 16 (0 ∷ []))
    ∷ function (ascii "(x") (refuses 17 (0 ∷ []))
    ∷ function (ascii "(*f") (refuses 16 (2 ∷ []))
    ∷ function (ascii "(*f)") (refuses 16 (4 ∷ []))
    ∷ function (ascii "(*f)x") (refuses 17 (4 ∷ []))
    ∷ function (ascii "(*f)(") (refuses 16 (5 ∷ []))
    ∷ []

abbrev pub AtTheEdges : Type 0
AtTheEdges = All examples × All malformed

-- the scene with bytes after its end mark, and a copy with another payload of the first object and nothing after the mark
abbrev pub sound : List ℕ
sound = scene (ascii "hull") (ascii "hull") (ascii "TYPE") (ascii "after")

abbrev pub changed : List ℕ
changed = scene (0 ∷ 255 ∷ 69 ∷ 78 ∷ []) (ascii "hull") (ascii "TYPE") []

-- their answer, and a table of 22 numbers before and after
abbrev pub answer : RawBlend
answer =
    record {
      header = record { pointer_size = Bits64; endianness = Little; version = record { major = 2; minor = 80 }; format = Legacy };
      rows = 3;
      end = 148;
      dna = record { names = 1; types = 1; structs = 1; fields = 1 };
    }

abbrev pub before : List ℕ
before = replicate 22 9

abbrev pub after : List ℕ
after = 1329725440 ∷ 16 ∷ 3 ∷ 1 ∷ 12 ∷ 36 ∷ 4 ∷ 1329725440 ∷ 16 ∷ 3 ∷ 1 ∷ 40 ∷ 64 ∷ 4 ∷ 1145979185 ∷ 32 ∷ 0 ∷ 1 ∷ 68 ∷ 92 ∷ 52 ∷ 9 ∷ []

-- Document 01's scene, with one object, in each of the eight forms. Every number in it is small: its byte stands first in the little order and last in the big one.
abbrev pub small : Endianness → (width n : ℕ) → List ℕ
small Little width n = n ∷ replicate (width - 1) 0
small Big width n = replicate (width - 1) 0 ++ (n ∷ [])

abbrev pub pointer_mark : PointerSize → List ℕ
pointer_mark Bits32 = ascii "_"
pointer_mark Bits64 = ascii "-"

abbrev pub order_mark : Endianness → List ℕ
order_mark Little = ascii "v"
order_mark Big = ascii "V"

abbrev pub header_in : FileFormat → PointerSize → Endianness → List ℕ
header_in Legacy p e = ascii "BLENDER" ++ pointer_mark p ++ order_mark e ++ ascii "280"
header_in New p e = ascii "BLENDER17" ++ pointer_mark p ++ ascii "01" ++ order_mark e ++ ascii "0501"

-- the width of an address, and a block header after its code
abbrev pub wide : PointerSize → ℕ
wide Bits32 = 4
wide Bits64 = 8

abbrev pub block_in : FileFormat → PointerSize → Endianness → (size address index count : ℕ) → List ℕ
block_in Legacy p e size address index count = small e 4 size ++ small e (wide p) address ++ small e 4 index ++ small e 4 count
block_in New p e size address index count = small Little 4 index ++ small e (wide p) address ++ small Little 8 size ++ small Little 8 count

unfoldable pub scene_in : FileFormat → PointerSize → Endianness → List ℕ
scene_in f p e =
    header_in f p e
    ++ ascii "OB" ++ (0 ∷ 0 ∷ []) ++ block_in f p e 4 16 3 1 ++ ascii "hull"
    ++ ascii "DNA1" ++ block_in f p e 52 32 0 1
    ++ ascii "SDNANAME" ++ small e 4 1 ++ ascii "x" ++ (0 ∷ 0 ∷ 0 ∷ []) ++ ascii "TYPE" ++ small e 4 1 ++ ascii "int" ++ (0 ∷ [])
    ++ ascii "TLEN" ++ small e 2 4 ++ (0 ∷ 0 ∷ []) ++ ascii "STRC" ++ small e 4 1 ++ small e 2 0 ++ small e 2 1 ++ small e 2 0 ++ small e 2 0
    ++ ascii "ENDB"

-- the version of each edition's header, and where its blocks start and how long their headers are
abbrev pub version_in : FileFormat → Version
version_in Legacy = record { major = 2; minor = 80 }
version_in New = record { major = 5; minor = 1 }

abbrev pub rows_at : FileFormat → PointerSize → ℕ × ℕ
rows_at Legacy Bits32 = (12, 20)
rows_at Legacy Bits64 = (12, 24)
rows_at New Bits32 = (17, 28)
rows_at New Bits64 = (17, 32)

abbrev pub answer_in : FileFormat → PointerSize → Endianness → RawBlend
answer_in f p e =
    record {
      header = record { pointer_size = p; endianness = e; version = version_in f; format = f };
      rows = 2;
      end = (rows_at f p).0 + (rows_at f p).1 + 4 + (rows_at f p).1 + 52 + 4;
      dna = record { names = 1; types = 1; structs = 1; fields = 1 };
    }

abbrev pub table_in : FileFormat → PointerSize → List ℕ
table_in f p =
    let first = (rows_at f p).0 in
    let long = (rows_at f p).1 in
    let second = first + long + 4 in
    1329725440 ∷ 16 ∷ 3 ∷ 1 ∷ first ∷ (first + long) ∷ 4 ∷ 1145979185 ∷ 32 ∷ 0 ∷ 1 ∷ second ∷ (second + long) ∷ 52 ∷ []

-- All are read: the first two with the same answer and the same table, and the scene in every form.
pub record ScenesAreRead : Type 0 where
  pub of-sound : «blend::blend» sound before (Ok answer) after
  pub of-changed : «blend::blend» changed before (Ok answer) after
  pub of_forms : (f : FileFormat) (p : PointerSize) (e : Endianness) → «blend::blend» (scene_in f p e) (replicate 14 9) (Ok (answer_in f p e)) (table_in f p)
