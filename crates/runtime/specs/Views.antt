-- Views: the file's part at a row's payload offset and length.
use Rattle.std.specs.Prelude.{ℕ, ◌/◌, Bool, true, false, ◌&&◌, List, [], ltb, length, take, drop, Result}
use Rattle.octets.specs.Paper.{Paper}
use Rattle.octets.specs.Paper.Paper.{accepts}
use Rattle.octets.specs.Reader.{room}
use Rattle.octets.specs.Refusals.{not_there, paper_answer}
use Rattle.octets.specs.declared.Refusal.{Refusal}
use Rattle.block.specs.Rows.{Column, per_row, cell}

-- whether the table has the row
abbrev pub has_row : List ℕ → ℕ → Bool
has_row t row = ltb row (length t / per_row)

-- whether the table has the row and the file the part
abbrev pub is_there : List ℕ → List ℕ → ℕ → Bool
is_there s t row = has_row t row && room s (cell t row Column.payload) (cell t row Column.len)

-- one call gives the 13
unfoldable pub view_as : List ℕ → List ℕ → ℕ → Paper
view_as s t row = elim (is_there s t row) [ true ↦ accepts 0 [] | false ↦ not_there ]

-- another the part, empty on 13
unfoldable pub part_as : List ℕ → List ℕ → ℕ → List ℕ
part_as s t row = elim (is_there s t row) [ true ↦ take (cell t row Column.len) (drop (cell t row Column.payload) s) | false ↦ [] ]

abbrev pub paper_view : Result (Unit {0}) Refusal → Paper
paper_view r = paper_answer (λ u. accepts 0 []) r
