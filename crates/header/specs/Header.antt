-- Header: one reading tree over a file's first bytes, and the value that is made of the bytes that the tree read.
use Prim.Native.Char.{code}
use Rattle.std.specs.Prelude.{ℕ, ◌+◌, ◌*◌, ◌-◌, ◌/◌, ◌%◌, true, false, List, [], ◌∷◌, ◌++◌, length, drop, Option, Some, None, Result, Ok, Err}
use Rattle.octets.specs.declared.Endianness.{Endianness}
use Rattle.octets.specs.declared.Endianness.TheVariants.{Little, Big}
use Rattle.octets.specs.declared.Fault.{Fault}
use Rattle.octets.specs.declared.PointerSize.{PointerSize}
use Rattle.octets.specs.declared.PointerSize.TheVariants.{Bits32, Bits64}
use Rattle.octets.specs.declared.Refusal.TheVariants.{CompressedFileNotSupported}
use Rattle.octets.specs.declared.cursor.Cursor.{Cursor}
use Rattle.octets.specs.Ascii.{ascii, is_digit}
use Rattle.octets.specs.Cursor.{found}
use Rattle.octets.specs.Number.{tag}
use Rattle.octets.specs.Paper.{Paper}
use Rattle.octets.specs.Paper.Paper.{accepts}
use Rattle.octets.specs.PointerSize.{pointer_bytes}
use Rattle.octets.specs.Reader.{Reader, Outcome}
use Rattle.octets.specs.Reader.Reader.{done, refuse, bytes, begins}
use Rattle.octets.specs.Reader.Outcome.{read, fault}
use Rattle.octets.specs.Refusals.{paper_fault, told}
use Rattle.header.specs.declared.FileFormat.{FileFormat}
use Rattle.header.specs.declared.FileFormat.TheVariants.{Legacy, New}
use Rattle.header.specs.declared.Version.{Version}
use Rattle.header.specs.declared.Header.{Header}

-- Version: the ASCII digits among the version bytes, read in decimal. `n` is what was read so far.
unfoldable pub decimal : ℕ → List ℕ → ℕ
decimal n [] = n
decimal n (b ∷ bs) = elim (is_digit b) [ true ↦ decimal (n * 10 + (b - code "0")) bs | false ↦ decimal n bs ]

-- Major is the value divided by 100, minor the remainder.
abbrev pub version_of : List ℕ → Version
version_of bs = record { major = decimal 0 bs / 100; minor = decimal 0 bs % 100 }

-- one of two marks, and what each stands for
abbrev pub one_of : {A B : Type 0} → List ℕ → A → List ℕ → A → (A → Reader B) → Reader B
one_of m a n b k = begins m (k a) (tag n (k b))

-- pointer mark: `_` 32 bits, `-` 64
abbrev pub pointer_mark : {B : Type 0} → (PointerSize → Reader B) → Reader B
pointer_mark k = one_of (ascii "_") Bits32 (ascii "-") Bits64 k

-- order mark: `v` little, `V` big
abbrev pub order_mark : {B : Type 0} → (Endianness → Reader B) → Reader B
order_mark k = one_of (ascii "v") Little (ascii "V") Big k

-- The parts of a header after its magic: what the pointer mark and the order mark stand for, bytes that are not looked at, and the version's bytes.
pub data Part : Type 0 where
  pointer_size : Part
  byte_order : Part
  unchecked : ℕ → Part
  version : ℕ → Part

-- Legacy: pointer mark, order mark, 3 version bytes. New: 2 bytes unchecked, pointer mark, 2 bytes unchecked, order mark, 4 version bytes.
abbrev pub parts : FileFormat → List Part
parts Legacy = pointer_size ∷ byte_order ∷ version 3 ∷ []
parts New = unchecked 2 ∷ pointer_size ∷ unchecked 2 ∷ byte_order ∷ version 4 ∷ []

abbrev pub magic : List ℕ
magic = ascii "BLENDER"

-- How many bytes a header has: those of its magic and of its parts, 12 or 17. As many as its tree takes (proofs/Headers.antt).
abbrev pub part_length : Part → ℕ
part_length pointer_size = 1
part_length byte_order = 1
part_length (unchecked n) = n
part_length (version n) = n

abbrev pub parts_length : List Part → ℕ
parts_length [] = 0
parts_length (p ∷ ps) = part_length p + parts_length ps

abbrev pub header_length : FileFormat → ℕ
header_length f = length magic + parts_length (parts f)

-- What a header's bytes are: the edition, what the two marks stand for, the unchecked bytes (none in a Legacy file; no
-- value is made of them, but a stricter reading can look at them), and the version bytes.
pub record HeaderBytes : Type 0 where
  pub format : FileFormat
  pub pointer : PointerSize
  pub order : Endianness
  pub unchecked : List ℕ
  pub version : List ℕ

-- a header's bytes with one part told
abbrev pub with_pointer : HeaderBytes → PointerSize → HeaderBytes
with_pointer b p = record { format = b.format; pointer = p; order = b.order; unchecked = b.unchecked; version = b.version }

abbrev pub with_order : HeaderBytes → Endianness → HeaderBytes
with_order b e = record { format = b.format; pointer = b.pointer; order = e; unchecked = b.unchecked; version = b.version }

abbrev pub with_unchecked : HeaderBytes → List ℕ → HeaderBytes
with_unchecked b u = record { format = b.format; pointer = b.pointer; order = b.order; unchecked = b.unchecked ++ u; version = b.version }

abbrev pub with_version : HeaderBytes → List ℕ → HeaderBytes
with_version b v = record { format = b.format; pointer = b.pointer; order = b.order; unchecked = b.unchecked; version = v }

-- the parts, one after another
unfoldable pub parts_read : List Part → HeaderBytes → Reader HeaderBytes
parts_read [] b = done b
parts_read (pointer_size ∷ ps) b = pointer_mark (λ p. parts_read ps (with_pointer b p))
parts_read (byte_order ∷ ps) b = order_mark (λ e. parts_read ps (with_order b e))
parts_read (unchecked n ∷ ps) b = bytes n (λ u. parts_read ps (with_unchecked b u))
parts_read (version n ∷ ps) b = bytes n (λ v. parts_read ps (with_version b v))

-- Nothing is told yet but the edition and, in a Legacy file, what the pointer mark stands for that was met already. The other values here are fillers: each of
-- them has its part in `parts`, which tells it.
abbrev pub untold : FileFormat → PointerSize → HeaderBytes
untold f p = record { format = f; pointer = p; order = Little; unchecked = []; version = [] }

-- Legacy, after its pointer mark, which is the first of its parts
unfoldable pub legacy : PointerSize → Reader HeaderBytes
unfolding parts_read
legacy p = parts_read (drop 1 (parts Legacy)) (untold Legacy p)

unfoldable pub new : Reader HeaderBytes
unfolding parts_read
new = parts_read (parts New) (untold New Bits32)

-- The first 7 bytes are "BLENDER", else refusal 1 (also when fewer are there). If the next byte is `_` or `-`, which stand for
-- what `pointer_mark` says, the file is Legacy, otherwise New.
unfoldable pub header_bytes : Reader HeaderBytes
unfolding legacy new
header_bytes = begins magic (begins (ascii "_") (legacy Bits32) (begins (ascii "-") (legacy Bits64) new)) (refuse CompressedFileNotSupported)

-- the value that is made of a header's bytes, and of what the tree found
abbrev pub header_of : HeaderBytes → Header
header_of b = record { pointer_size = b.pointer; endianness = b.order; version = version_of b.version; format = b.format }

abbrev pub valued : Outcome HeaderBytes → Outcome Header
valued (read b next) = read (header_of b) next
valued (fault f) = fault f

-- What `header` answers: on paper, edition (0 legacy, 1 new), pointer bytes, order (0 little, 1 big), major and minor; and the header's length.
abbrev pub edition : FileFormat → ℕ
edition Legacy = 0
edition New = 1

abbrev pub order : Endianness → ℕ
order Little = 0
order Big = 1

abbrev pub header_numbers : Header → List ℕ
header_numbers h = edition h.format ∷ pointer_bytes h.pointer_size ∷ order h.endianness ∷ h.version.major ∷ h.version.minor ∷ []

abbrev pub header_as : Outcome Header → Paper
header_as o = told header_numbers o

abbrev pub paper_header : Result (Header × ℕ) Fault → Paper
paper_header (Ok (h, at)) = accepts 0 (header_numbers h ++ (at ∷ []))
paper_header (Err f) = paper_fault f

-- the papers of the answers about its parts: the pointer's bytes, the order, and major and minor
abbrev pub paper_pointer_size : Result (PointerSize × Cursor) Fault → Paper
paper_pointer_size r = told (λ p. pointer_bytes p ∷ []) (found r)

abbrev pub paper_endianness : Result (Endianness × Cursor) Fault → Paper
paper_endianness r = told (λ e. order e ∷ []) (found r)

abbrev pub paper_version : Result (Version × Cursor) Fault → Paper
paper_version r = told (λ v. v.major ∷ v.minor ∷ []) (found r)

-- why a header is refused, and where; nothing where it is not
abbrev pub fault_of : Result (Header × ℕ) Fault → Option Fault
fault_of (Ok (h, at)) = None
fault_of (Err f) = Some f
