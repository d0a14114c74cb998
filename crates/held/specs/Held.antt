-- The search in a list of row records.
use Rattle.std.specs.Prelude.{ℕ, Bool, true, false, List, ltb, eqb, length, get_or}
use Rattle.octets.specs.Paper.{Paper}
use Rattle.octets.specs.Refusals.{not_there}
use Rattle.block.specs.declared.Row.{Row}
use Rattle.runtime.specs.Addresses.{matches, null, seek}
use Rattle.block.specs.Rows.{none}

-- whether a row is of a kind that is searched, and has this address
abbrev pub is_row : ℕ → Row → Bool
is_row address r = matches address r.code r.address

-- 13 first, if there are fewer rows; address 0: Null; otherwise the first row, else Missing
abbrev pub lookup_rows : List Row → ℕ → ℕ → Paper
lookup_rows rs n address =
    elim (ltb (length rs) n) [
      | true ↦ not_there
      | false ↦ elim (eqb address 0) [ true ↦ null | false ↦ seek (λ i. is_row address (get_or rs i none)) n 0 ]
    ]
