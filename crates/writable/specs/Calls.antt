-- What each public call promises, by its name (crates/octets/specs/Calls.antt says how to read it).
use Rattle.std.specs.Prelude.{ℕ, ◌/◌, true, false, List, ◌≡◌, ltb, length, Result}
use Rattle.header.specs.declared.Header.{Header}
use Rattle.block.specs.declared.Row.{Row}
use Rattle.block.specs.Rows.{per_row, row_spelt, none}
use Rattle.writable.specs.declared.writable.WritableError.{WritableError}
use Rattle.writable.specs.Writable.{needed_of}

-- zeros where the table does not have the row, so that the call has no refusal; no row of a file has the address 0
abbrev pub writable::row_at : (table : List ℕ) (row : ℕ) → Row → Type 0
writable::row_at table row r = r ≡ (elim (ltb row (length table / per_row)) as (λ b. Row) [ true ↦ row_spelt table row | false ↦ none ])

abbrev pub writable::bytes_needed : (h : Header) (table : List ℕ) (rows : ℕ) (source : List ℕ) → Result ℕ WritableError → Type 0
writable::bytes_needed h table rows source r = r ≡ needed_of h table rows source
