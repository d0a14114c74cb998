-- What each public call promises, by its name (crates/octets/specs/Calls.antt says how to read it). An output that is lent to write in stands for what it held, and primed
-- for what it holds afterwards.
use Rattle.std.specs.Prelude.{ℕ, List, ◌≡◌, length, Result}
use Rattle.header.specs.declared.Header.{Header}
use Rattle.writer.specs.declared.writer.WriteError.{WriteError}
use Rattle.writer.specs.Writer.{write_of, output_after}

abbrev pub «writer::write» : (h : Header) (table : List ℕ) (rows : ℕ) (source out : List ℕ) → Result ℕ WriteError → List ℕ → Type 0
«writer::write» h table rows source out r out' = (r ≡ write_of h table rows source (length out)) × (out' ≡ output_after r h table rows source out)
