-- Writer: the bytes of a file, what the writer answers, and what it leaves in the output.
use Rattle.std.specs.Prelude.{ℕ, true, false, List, [], ◌∷◌, ◌++◌, ltb, Result, Ok, Err}
use Rattle.octets.specs.Ascii.{ascii}
use Rattle.octets.specs.Paper.{Paper}
use Rattle.octets.specs.Paper.Paper.{accepts}
use Rattle.octets.specs.Refusals.{output_too_short}
use Rattle.octets.specs.Tables.{written}
use Rattle.header.specs.declared.Header.{Header}
use Rattle.header.specs.HeaderOut.{header_out}
use Rattle.block.specs.declared.Row.{Row}
use Rattle.block.specs.Rows.{payload_of, rows_spelt}
use Rattle.block.specs.Spelling.{block_header_out}
use Rattle.writable.specs.declared.writable.WritableError.{WritableError}
use Rattle.writable.specs.Writable.{needed_of, paper_unwritable}
use Rattle.writer.specs.declared.writer.WriteError.{WriteError}

-- The file: the header, for each row its block header and its payload, which stands in the source, and the end mark.
unfoldable pub blocks_out : Header → List ℕ → List Row → List ℕ
blocks_out h s [] = []
blocks_out h s (r ∷ rs) = block_header_out h r ++ payload_of s r ++ blocks_out h s rs

unfoldable pub file_out : Header → List ℕ → List Row → List ℕ
unfolding blocks_out
file_out h s rs = header_out h ++ blocks_out h s rs ++ ascii "ENDB"

-- What the writer answers, with an output of `room` bytes: 18, with all the bytes needed, comes only after what crates/writable asks.
abbrev pub answer_in : Result ℕ WritableError → ℕ → Result ℕ WriteError
answer_in (Ok n) room = elim (ltb room n) [ true ↦ Err (WriteError.TooShort n) | false ↦ Ok n ]
answer_in (Err u) room = Err (WriteError.Unwritable u)

abbrev pub write_of : Header → List ℕ → ℕ → List ℕ → ℕ → Result ℕ WriteError
write_of h t rows s room = answer_in (needed_of h t rows s) room

-- the paper of the answer
abbrev pub paper_write : Result ℕ WriteError → Paper
paper_write (Ok n) = accepts 0 (n ∷ [])
paper_write (Err (WriteError.Unwritable u)) = paper_unwritable u
paper_write (Err (WriteError.TooShort n)) = output_too_short n

-- What the output holds afterwards: the file from the front, and then what it held; on a refusal what it held.
abbrev pub output_after : Result ℕ WriteError → Header → List ℕ → ℕ → List ℕ → List ℕ → List ℕ
output_after r h t rows s out = written (paper_write r) (file_out h s (rows_spelt t rows 0)) out
