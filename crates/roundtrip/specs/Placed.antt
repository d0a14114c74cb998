-- Rows of a file that was written: what each row tells, with the offsets of the new file.
use Rattle.std.specs.Prelude.{ℕ, ◌+◌, List, [], ◌∷◌}
use Rattle.header.specs.declared.Header.{Header}
use Rattle.header.specs.Layout.{block_header_length}
use Rattle.block.specs.declared.Row.{Row}

-- a row whose block header starts at `at`: the same code, address, index, count and length
abbrev pub placed_at : Header → ℕ → Row → Row
placed_at h at r =
    record { code = r.code; address = r.address; index = r.index; count = r.count; at = at; payload = at + block_header_length h.format h.pointer_size; len = r.len }

-- one block after another, the first at `at`
unfoldable pub placed : Header → ℕ → List Row → List Row
placed h at [] = []
placed h at (r ∷ rs) = placed_at h at r ∷ placed h (at + (block_header_length h.format h.pointer_size + r.len)) rs
