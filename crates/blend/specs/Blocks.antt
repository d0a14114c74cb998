-- Blocks: what is read at a boundary, in which order it is checked, and what a DNA1 block has besides.
use Rattle.std.specs.Prelude.{ℕ, ◌+◌, Bool, true, false, List, [], ◌∷◌, ◌++◌, eqb, Result, Ok, Err, Some, None}
use Rattle.octets.specs.declared.Refusal.TheVariants.{UnsupportedCountOnPrincipalBlock, UnknownBlockCode}
use Rattle.octets.specs.declared.Fault.{Fault}
use Rattle.octets.specs.declared.Fault.TheVariants.{Cut, Mark}
use Rattle.octets.specs.Ascii.{ascii}
use Rattle.octets.specs.Reader.{Reader, Outcome, run, then, stands}
use Rattle.octets.specs.Reader.Reader.{done, refuse, skip}
use Rattle.octets.specs.Reader.Outcome.{read, fault}
use Rattle.octets.specs.Paper.{Paper}
use Rattle.octets.specs.Paper.Paper.{accepts}
use Rattle.octets.specs.Refusals.{paper_fault}
use Rattle.dna.specs.Catalogue.{Dna, catalogue, counts, count_numbers}
use Rattle.header.specs.declared.Header.{Header}
use Rattle.block.specs.BlockHeaders.{block_header}
use Rattle.block.specs.Kinds.{kind_of, about}
use Rattle.block.specs.Rows.{row_of, row_numbers, payload_of}
use Rattle.block.specs.declared.BlockHeader.{BlockHeader}
use Rattle.block.specs.declared.Row.{Row}
use Rattle.block.specs.declared.Kind.{Kind}
use Rattle.block.specs.declared.Takes.{Takes}
use Rattle.blend.specs.declared.blend.Boundary.{Boundary}

-- the code's test: of a Principal the count must be 1 (4); anything that is no block code is 5
abbrev pub taken_by : Takes → ℕ → Reader (Unit {0})
taken_by Takes.Always n = done tt
taken_by Takes.Alone n = elim (eqb n 1) [ true ↦ done tt | false ↦ refuse UnsupportedCountOnPrincipalBlock ]
taken_by Takes.Never n = refuse UnknownBlockCode

abbrev pub taken : Kind → ℕ → Reader (Unit {0})
taken k n = taken_by (about k).takes n

-- Order of checks: the header, then a payload of `size` bytes, which is not looked at, then the code. A DNA1's catalogue comes after that, in `finished`.
unfoldable pub block : Header → Reader BlockHeader
unfolding then block_header
block h = then (block_header h) (λ b. skip b.size (then (taken (kind_of b.code) b.count) (λ u. done b)))

abbrev pub rowed : Header → ℕ → Outcome BlockHeader → Outcome Row
rowed h at (read b next) = read (row_of h at b) next
rowed h at (fault f) = fault f

unfoldable pub row_at : Header → List ℕ → ℕ → Outcome Row
row_at h s at = rowed h at (run (block h) s at)

-- a fault in a payload, told by its place in the file
abbrev pub within : ℕ → Fault → Fault
within from (Cut at) = Cut (from + at)
within from (Mark at) = Mark (from + at)
within from (Fault.Refusal r) = Fault.Refusal r

-- DNA1: its payload must read as a catalogue.
abbrev pub catalogued : Row → ℕ → Outcome Dna → Result Boundary Fault
catalogued r next (read d end) = Ok (Boundary.Block r (Some (counts d)) next)
catalogued r next (fault f) = Err (within r.payload f)

abbrev pub is_dna : Kind → Bool
is_dna k = (about k).dna

unfoldable pub finished : Header → List ℕ → Row → ℕ → Result Boundary Fault
finished h s r next =
    elim (is_dna (kind_of r.code)) [
      | true ↦ catalogued r next (run (catalogue h.endianness) (payload_of s r) 0)
      | false ↦ Ok (Boundary.Block r None next)
    ]

abbrev pub on_row : Header → List ℕ → Outcome Row → Result Boundary Fault
on_row h s (read r next) = finished h s r next
on_row h s (fault f) = Err f

-- the paper of what is at a boundary: 0 a block, 1 the end mark, 2 a DNA1 block, with its counts
abbrev pub paper_boundary : Result Boundary Fault → Paper
paper_boundary (Ok Boundary.EndMark) = accepts 1 []
paper_boundary (Ok (Boundary.Block r None next)) = accepts 0 (next ∷ row_numbers r)
paper_boundary (Ok (Boundary.Block r (Some n) next)) = accepts 2 (next ∷ count_numbers n ++ row_numbers r)
paper_boundary (Err f) = paper_fault f

-- At each boundary: if the next 4 bytes are "ENDB", reading ends there. Otherwise a block is read: its row; whether it is a DNA1, and then its
-- counts; and the next boundary.
unfoldable pub boundary_of : Header → List ℕ → ℕ → Result Boundary Fault
boundary_of h s at = elim (stands s at (ascii "ENDB")) [ true ↦ Ok Boundary.EndMark | false ↦ on_row h s (row_at h s at) ]
