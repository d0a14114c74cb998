-- Chain: all blocks of a file, and what the reader answers and leaves in the row table.
use Rattle.std.specs.Prelude.{ℕ, zero, suc, ◌+◌, ◌/◌, true, false, List, [], ◌∷◌, ◌++◌, ltb, length, Result, Ok, Err, Option, Some, None}
use Rattle.octets.specs.declared.Refusal.TheVariants.{NoDnaBlockFound}
use Rattle.octets.specs.declared.Fault.TheVariants.{Cut}
use Rattle.octets.specs.Paper.{Paper}
use Rattle.octets.specs.Paper.Paper.{accepts}
use Rattle.octets.specs.Reader.{Reader, Outcome, run}
use Rattle.octets.specs.Reader.Outcome.{read, fault}
use Rattle.octets.specs.Refusals.{block_table_too_short, paper_fault}
use Rattle.octets.specs.Tables.{written}
use Rattle.dna.specs.declared.dna.DnaCounts.{DnaCounts}
use Rattle.dna.specs.Catalogue.{count_numbers}
use Rattle.header.specs.declared.Header.{Header}
use Rattle.block.specs.declared.Row.{Row}
use Rattle.blend.specs.declared.blend.Boundary.{Boundary}
use Rattle.octets.specs.declared.Fault.{Fault}
use Rattle.blend.specs.declared.blend.RawBlend.{RawBlend}
use Rattle.blend.specs.declared.blend.BlendError.{BlendError}
use Rattle.header.specs.Header.{HeaderBytes, valued, header_numbers}
use Rattle.blend.specs.Blocks.{boundary_of}
use Rattle.block.specs.Rows.{per_row, row_table}

-- The rows up to the end mark or to the earliest fault; and the counts of the last DNA1 with the offset after the end mark, or the fault, 6 included.
pub record Chain : Type 0 where
  pub rows : List Row
  pub last : Outcome DnaCounts

-- At the end the last block must be DNA1, else 6; no blocks at all is also 6.
abbrev pub ended : Option DnaCounts → ℕ → Outcome DnaCounts
ended None next = fault (Fault.Refusal NoDnaBlockFound)
ended (Some n) next = read n next

abbrev pub link : Result Boundary Fault → Option DnaCounts → ℕ → (ℕ → Option DnaCounts → Chain) → Chain
link (Ok Boundary.EndMark) last at on = record { rows = []; last = ended last (at + 4) }
link (Ok (Boundary.Block r l next)) last at on = record { rows = r ∷ (on next l).rows; last = (on next l).last }
link (Err f) last at on = record { rows = []; last = fault f }

-- from a boundary on, where `last` is the block before it; at most n boundaries
unfoldable pub chain : ℕ → Header → List ℕ → ℕ → Option DnaCounts → Chain
chain zero h s at last = record { rows = []; last = fault (Cut at) }
chain (suc n) h s at last = link (boundary_of h s at) last at (chain n h s)

-- All of them. Each block takes at least 20 bytes, so there are never more boundaries than bytes and one, and `zero` is never met
-- (proofs/Chains.antt).
unfoldable pub chain_from : Header → List ℕ → ℕ → Chain
unfolding chain
chain_from h s at = chain (suc (length s)) h s at None

-- A file, given the tree that reads its header: the header comes first, and its refusal ends the reading. The tree is a parameter, so that another
-- reading of the header can stand beside `header_bytes`.
pub record File : Type 0 where
  pub header : Header
  pub chain : Chain

abbrev pub on_header : List ℕ → Outcome Header → Outcome File
on_header s (read h at) = read (record { header = h; chain = chain_from h s at }) at
on_header s (fault f) = fault f

abbrev pub file_by : Reader HeaderBytes → List ℕ → Outcome File
file_by header s = on_header s (valued (run header s 0))

-- What the reader answers, with a table of `room` rows: header, number of rows, offset after the end mark and the four counts of the last DNA1.
-- 7 comes only when the file reads.
abbrev pub answer_for : Header → ℕ → ℕ → Outcome DnaCounts → Paper
answer_for h rows room (read n end) =
    elim (ltb room rows) [ true ↦ block_table_too_short rows | false ↦ accepts 0 (header_numbers h ++ (rows ∷ end ∷ count_numbers n)) ]
answer_for h rows room (fault f) = paper_fault f

unfoldable pub read_as : Outcome File → ℕ → Paper
read_as (read f at) room = answer_for f.header (length f.chain.rows) room f.chain.last
read_as (fault f) room = paper_fault f

abbrev pub rows_of : Outcome File → List Row
rows_of (read f at) = f.chain.rows
rows_of (fault f) = []

-- what the table holds afterwards
abbrev pub table_after : Outcome File → List ℕ → List ℕ
table_after o t = written (read_as o (length t / per_row)) (row_table (rows_of o)) t

-- the paper of the answer
abbrev pub paper_blend : Result RawBlend BlendError → Paper
paper_blend (Ok b) = accepts 0 (header_numbers b.header ++ (b.rows ∷ b.end ∷ count_numbers b.dna))
paper_blend (Err (BlendError.Fault f)) = paper_fault f
paper_blend (Err (BlendError.TableTooShort rows)) = block_table_too_short rows
