-- What inner functions ensure, and how the answers of reads stand to the rules. No rule uses it.
use Rattle.std.specs.Prelude.{ℕ, zero, suc, ◌+◌, List, [], length, Result, Ok, Err}
use Rattle.octets.specs.declared.Refusal.{Refusal}
use Rattle.octets.specs.declared.Fault.{Fault}
use Rattle.octets.specs.Helpers.{go_on}
use Rattle.octets.specs.Reader.{Reader, Outcome}
use Rattle.octets.specs.Reader.Reader.{done, refuse}
use Rattle.octets.specs.Reader.Outcome.{read, fault}
use Rattle.dna.specs.declared.dna.DnaCounts.{DnaCounts}
use Rattle.header.specs.declared.Header.{Header}
use Rattle.block.specs.declared.Row.{Row}
use Rattle.blend.specs.declared.blend.Chained.{Chained}
use Rattle.blend.specs.Blocks.{row_at}
use Rattle.blend.specs.Chain.{Chain}

-- What the reads answer, in the terms of the reading trees.
abbrev pub taking : Result (Unit {0}) Refusal → Reader (Unit {0})
taking (Ok u) = done u
taking (Err r) = refuse r

abbrev pub row_read : Result (Row × ℕ) Fault → Outcome Row
row_read (Ok (r, next)) = read r next
row_read (Err f) = fault f

-- a chain without its rows, after some rows that were counted
abbrev pub summed_as : ℕ → Outcome DnaCounts → Result Chained Fault
summed_as rows (read d end) = Ok (record { rows = rows; dna = d; end = end })
summed_as rows (fault f) = Err f

abbrev pub summed : ℕ → Chain → Result Chained Fault
summed n c = summed_as (n + length c.rows) c.last

-- the rows of the blocks from a boundary on, at most n, up to the first fault; end marks and catalogues are not looked at
unfoldable pub rows_from : ℕ → Header → List ℕ → ℕ → List Row
rows_from zero h s at = []
rows_from (suc n) h s at = go_on (row_at h s at) (rows_from n h s)
