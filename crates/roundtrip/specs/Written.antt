-- Written and read: what is promised of the writer and the reader together, over the contracts of the two calls.
use Rattle.std.specs.Prelude.{ℕ, ◌-◌, ◌/◌, ◌^◌, ◌≤◌, ◌<◌, List, ◌≡◌, length, take, drop, Result, Ok}
use Rattle.octets.specs.declared.Endianness.{Endianness}
use Rattle.octets.specs.Looks.{part}
use Rattle.octets.specs.Number.{Bytes, spelled, bytes_of}
use Rattle.dna.specs.declared.dna.DnaCounts.{DnaCounts}
use Rattle.dna.specs.Calls.{dna::dna_counts}
use Rattle.header.specs.declared.FileFormat.TheVariants.{Legacy}
use Rattle.header.specs.declared.Header.{Header}
use Rattle.header.specs.Header.{header_length, header_bytes}
use Rattle.header.specs.HeaderOut.{Digits}
use Rattle.block.specs.Rows.{per_row, row_spelt, payload_of}
use Rattle.blend.specs.declared.blend.RawBlend.{RawBlend}
use Rattle.blend.specs.declared.blend.BlendError.{BlendError}
use Rattle.blend.specs.Calls.{«blend::blend»}
use Rattle.writer.specs.declared.writer.WriteError.{WriteError}
use Rattle.writer.specs.Calls.{«writer::write»}
use Rattle.writer.specs.Writer.{file_out}
use Rattle.demands.specs.Answers.{rows_in}
use Rattle.demands.specs.Cover.{Covered}
use Rattle.roundtrip.specs.Placed.{placed}

-- What a slice of bytes is: each element is a byte, and its length is below 2^64.
abbrev pub Slice : List ℕ → Type 0
Slice s = Bytes s × (length s < 2 ^ 64)

-- Numbers, in every width and both orders: where a number has room, its bytes spell it; and bytes are those of the number that they spell.
pub record NumbersWritten : Type 0 where
  pub back : (e : Endianness) (w n : ℕ) → n < 256 ^ w → spelled e (bytes_of e w n) ≡ n
  pub again : (e : Endianness) (bs : List ℕ) → Bytes bs → bytes_of e (length bs) (spelled e bs) ≡ bs

-- The answer is the length of what was written: from there on the output holds what it held.
abbrev pub RestKept : Type 0
RestKept =
    (h : Header) (t : List ℕ) (rows : ℕ) (s out out' : List ℕ) (n : ℕ) → «writer::write» h t rows s out (Ok n) out'
    → (n ≤ length out) × (take n out' ≡ file_out h s (rows_in t rows)) × (drop n out' ≡ drop n out)

-- Reading what was written: n bytes were written for this header, these rows and this source, whatever the output held and holds after them; and `a` is what the reader
-- answers of that output, with a table that has room for the rows, and `u'` that table afterwards. It is read, with the same header, as many rows, and n as its end; each
-- row has the code, address, index, count and length that it had, with the offsets of the new file; each payload has the bytes that it had in the source; and the counts
-- are those of the last row's catalogue.
pub record ReadBack (h : Header) (t : List ℕ) (rows : ℕ) (s : List ℕ) (n : ℕ) (out' : List ℕ) (a : Result RawBlend BlendError) (u' : List ℕ) : Type 0 where
  pub counts : DnaCounts
  pub answer : a ≡ Ok (record { header = h; rows = rows; end = n; dna = counts })
  pub table : rows_in u' rows ≡ placed h (header_length h.format) (rows_in t rows)
  pub payload : (i : ℕ) → i < rows → payload_of out' (row_spelt u' i) ≡ payload_of s (row_spelt t i)
  pub last : (end : ℕ) × dna::dna_counts (payload_of s (row_spelt t (rows - 1))) h.endianness (Ok (counts, end))

abbrev pub WrittenIsRead : Type 0
WrittenIsRead =
    (h : Header) (t : List ℕ) (rows : ℕ) (s out out' : List ℕ) (n : ℕ) → «writer::write» h t rows s out (Ok n) out'
    → (u u' : List ℕ) → rows ≤ length u / per_row → (a : Result RawBlend BlendError) → «blend::blend» out' u a u' → ReadBack h t rows s n out' a u'

-- so demand 2 holds of it: header, block headers, payloads and end mark cover the n bytes, each once, in order
abbrev pub WrittenIsCovered : Type 0
WrittenIsCovered =
    (h : Header) (t : List ℕ) (rows : ℕ) (s out out' : List ℕ) (n : ℕ) → «writer::write» h t rows s out (Ok n) out'
    → Covered header_bytes out' h (placed h (header_length h.format) (rows_in t rows)) n

-- What a file that was read is written as, from its own rows and itself, in an output that has room: the same bytes up to the end of the end mark.
abbrev pub WrittenAs : Header → ℕ → List ℕ → ℕ → List ℕ → Type 0
WrittenAs h rows t end s = (out out' : List ℕ) (a : Result ℕ WriteError) → end ≤ length out → «writer::write» h t rows s out a out' → (a ≡ Ok end) × (take end out' ≡ take end s)

-- Read and written again: a Legacy file whose three version bytes are digits has the same bytes up to the end of the end mark.
abbrev pub ReadAndWritten : Type 0
ReadAndWritten =
    (s t t' : List ℕ) (b : RawBlend) → Slice s → «blend::blend» s t (Ok b) t' → b.header.format ≡ Legacy → Digits (part s 9 3)
    → WrittenAs b.header b.rows t' b.end s

-- Written again is the same: what was read of what was written is written as it was, in all forms.
abbrev pub WrittenAgain : Type 0
WrittenAgain =
    (h : Header) (t : List ℕ) (rows : ℕ) (s out out' : List ℕ) (n : ℕ) → Slice out' → «writer::write» h t rows s out (Ok n) out'
    → (u u' : List ℕ) (b : RawBlend) → «blend::blend» out' u (Ok b) u' → WrittenAs b.header b.rows u' b.end out'
