-- What can be written: what the writer asks of a header, rows and a source before it writes a byte, in the order in which request 5 of document 02 has the refusals, and
-- how many bytes the file has.
use Rattle.std.specs.Prelude.{ℕ, ◌+◌, ◌-◌, ◌/◌, ◌^◌, true, false, List, [], ◌∷◌, ltb, eqb, length, Result, Ok, Err, Option, Some, None}
use Rattle.octets.specs.declared.Endianness.{Endianness}
use Rattle.octets.specs.declared.Refusal.TheVariants.{InvalidMemoryAddress, NoDnaBlockFound, ProductTooLarge, NotThere}
use Rattle.octets.specs.Paper.{Paper}
use Rattle.octets.specs.Paper.Paper.{accepts}
use Rattle.octets.specs.Reader.{Reader, Outcome, run, then, room}
use Rattle.octets.specs.Reader.Reader.{done}
use Rattle.octets.specs.Reader.Outcome.{read, fault}
use Rattle.octets.specs.Refusals.{no_room_in_form, paper_fault}
use Rattle.dna.specs.Catalogue.{catalogue, counts}
use Rattle.header.specs.declared.Header.{Header}
use Rattle.header.specs.Header.{header_length}
use Rattle.header.specs.HeaderOut.{header_fits}
use Rattle.header.specs.Layout.{block_header_length}
use Rattle.block.specs.declared.Row.{Row}
use Rattle.block.specs.Kinds.{kind_of}
use Rattle.block.specs.Rows.{per_row, rows_spelt, payload_of}
use Rattle.block.specs.Spelling.{row_fits}
use Rattle.dna.specs.declared.dna.DnaCounts.{DnaCounts}
use Rattle.blend.specs.Blocks.{taken, is_dna}
use Rattle.octets.specs.declared.Fault.{Fault}
use Rattle.writable.specs.declared.writable.WritableError.{WritableError}

-- what a row is where it is the last: a DNA1, with the counts of its catalogue, or none
abbrev pub Last : Type 0
Last = Option DnaCounts

-- A row's payload, as the reader takes it: first the code (5, and 4 where a Principal's count is not 1), then the catalogue of a DNA1 (16 and 17, counted from the
-- payload's start). What is found is what the row is if it is the last one. ENDB and numbers over 2^32-1 are no block codes, so they are 5 (`mark_unknown` and
-- `large_unknown` in crates/block/proofs/Codes.antt).
unfoldable pub as_last : Endianness → (code count : ℕ) → Reader Last
unfolding then
as_last e code count =
    then (taken (kind_of code) count)
    (λ u. elim (is_dna (kind_of code)) as (λ b. Reader Last) [ true ↦ then (catalogue e) (λ d. done (Some (counts d))) | false ↦ done None ])

abbrev pub judged_by : Outcome Last → Result Last Fault
judged_by (read l end) = Ok l
judged_by (fault f) = Err f

-- Row by row, in the reader's order within a row: address 0 is 3, for every code; a payload outside the source is 13; then what the payload is taken as.
unfoldable pub judged : Endianness → List ℕ → Row → Result Last Fault
judged e s r =
    elim (eqb r.address 0) [
      | true ↦ Err (Fault.Refusal InvalidMemoryAddress)
      | false ↦ elim (room s r.payload r.len) [ true ↦ judged_by (run (as_last e r.code r.count) (payload_of s r) 0) | false ↦ Err (Fault.Refusal NotThere) ]
    ]

abbrev pub on_judged : Result Last Fault → (Last → Result Last Fault) → Result Last Fault
on_judged (Ok l) on = on l
on_judged (Err f) on = Err f

-- what the last row is, after `last`; or the first fault
unfoldable pub all_judged : Endianness → List ℕ → List Row → Last → Result Last Fault
all_judged e s [] last = Ok last
all_judged e s (r ∷ rs) last = on_judged (judged e s r) (all_judged e s rs)

-- the number of the first row, from `row` on, with a number that the form has no room for; the number after the last where each has room
unfoldable pub first_unfit : Header → List Row → ℕ → ℕ
first_unfit h [] row = row
first_unfit h (r ∷ rs) row = elim (row_fits h r) [ true ↦ first_unfit h rs (row + 1) | false ↦ row ]

-- The bytes of the file: the header, for each row its block header, of `header` bytes, and its payload, and the end mark. As many as are written
-- where each payload is in the source (crates/writer/proofs/Files.antt).
unfoldable pub blocks_length : ℕ → List Row → ℕ
blocks_length header [] = 0
blocks_length header (r ∷ rs) = header + r.len + blocks_length header rs

abbrev pub file_length : Header → List Row → ℕ
file_length h rs = header_length h.format + blocks_length (block_header_length h.format h.pointer_size) rs + 4

-- 10: a length above 2^64-1
abbrev pub counted : ℕ → Result ℕ WritableError
counted n = elim (ltb (2 ^ 64 - 1) n) [ true ↦ Err (WritableError.Fault (Fault.Refusal ProductTooLarge)) | false ↦ Ok n ]

-- 19: the header counts as the row count and is looked at first, then each row
abbrev pub fitted : Header → List Row → Result ℕ WritableError
fitted h rs =
    elim (header_fits h) [
      | true ↦ elim (ltb (first_unfit h rs 0) (length rs)) [ true ↦ Err (WritableError.NoRoom (first_unfit h rs 0)) | false ↦ counted (file_length h rs) ]
      | false ↦ Err (WritableError.NoRoom (length rs))
    ]

-- 6: no rows, or the last is no DNA1
abbrev pub on_last : Result Last Fault → Header → List Row → Result ℕ WritableError
on_last (Err f) h rs = Err (WritableError.Fault f)
on_last (Ok None) h rs = Err (WritableError.Fault (Fault.Refusal NoDnaBlockFound))
on_last (Ok (Some n)) h rs = fitted h rs

unfoldable pub needed_for : Header → List ℕ → List Row → Result ℕ WritableError
needed_for h s rs = on_last (all_judged h.endianness s rs None) h rs

-- 13 first, if the table has fewer rows. Rows past the row count are not looked at.
unfoldable pub needed_of : Header → List ℕ → ℕ → List ℕ → Result ℕ WritableError
unfolding needed_for
needed_of h t rows s = elim (ltb (length t / per_row) rows) [ true ↦ Err (WritableError.Fault (Fault.Refusal NotThere)) | false ↦ needed_for h s (rows_spelt t rows 0) ]

-- the papers of an error, and of the answer
abbrev pub paper_unwritable : WritableError → Paper
paper_unwritable (WritableError.Fault f) = paper_fault f
paper_unwritable (WritableError.NoRoom row) = no_room_in_form row

abbrev pub paper_needed : Result ℕ WritableError → Paper
paper_needed (Ok n) = accepts 0 (n ∷ [])
paper_needed (Err u) = paper_unwritable u
