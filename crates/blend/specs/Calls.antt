-- What each public call promises, by its name (crates/octets/specs/Calls.antt says how to read it). A table that is lent to write in stands for what it held, and
-- primed for what it holds afterwards.
use Rattle.std.specs.Prelude.{ℕ, ◌/◌, List, ◌≡◌, length, Result}
use Rattle.octets.specs.Reader.{Outcome}
use Rattle.header.specs.declared.Header.{Header}
use Rattle.header.specs.Header.{header_bytes}
use Rattle.blend.specs.declared.blend.RawBlend.{RawBlend}
use Rattle.blend.specs.declared.blend.BlendError.{BlendError}
use Rattle.blend.specs.declared.blend.Boundary.{Boundary}
use Rattle.octets.specs.declared.Fault.{Fault}
use Rattle.blend.specs.Blocks.{boundary_of}
use Rattle.block.specs.Rows.{per_row}
use Rattle.blend.specs.Chain.{File, file_by, read_as, table_after, paper_blend}

abbrev pub blend::boundary_at : (s : List ℕ) (h : Header) (at : ℕ) → Result Boundary Fault → Type 0
blend::boundary_at s h at r = r ≡ boundary_of h s at

-- what a reading of files answers with a table, and leaves in it
abbrev pub Answers : (List ℕ → Outcome File) → (file table : List ℕ) → Result RawBlend BlendError → List ℕ → Type 0
Answers reading file table r table' = (paper_blend r ≡ read_as (reading file) (length table / per_row)) × (table' ≡ table_after (reading file) table)

abbrev pub «blend::blend» : (file table : List ℕ) → Result RawBlend BlendError → List ℕ → Type 0
«blend::blend» file table r table' = Answers (file_by header_bytes) file table r table'
