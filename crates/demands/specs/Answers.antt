-- What the demands are stated of: the rows in a table after a call, and the tree that reads a header. What `blend` answers and leaves in the table is its contract,
-- `Answers` in crates/blend/specs/Calls.antt.
use Rattle.std.specs.Prelude.{ℕ, List, ◌≡◌, take}
use Rattle.octets.specs.Reader.{Reader, run}
use Rattle.octets.specs.Reader.Outcome.{read}
use Rattle.block.specs.declared.Row.{Row}
use Rattle.header.specs.Header.{HeaderBytes, header_length}
use Rattle.block.specs.Rows.{rows_spelt}

-- the first n rows that a table holds
abbrev pub rows_in : List ℕ → ℕ → List Row
rows_in t n = rows_spelt t n 0

-- What the demands need of the tree that reads the header, so that another tree can take the place of `header_bytes`: it takes the 12 or 17 bytes of its
-- edition, and what it finds depends on those alone.
pub record HeaderTree (header : Reader HeaderBytes) : Type 0 where
  pub long : (s : List ℕ) (b : HeaderBytes) (end : ℕ) → run header s 0 ≡ read b end → end ≡ header_length b.format
  pub own : (s t : List ℕ) (b : HeaderBytes) (end : ℕ) → run header s 0 ≡ read b end → take end t ≡ take end s → run header t 0 ≡ read b end
