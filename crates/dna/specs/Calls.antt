-- What each public call promises, by its name (crates/octets/specs/Calls.antt says how to read it). A table that is lent to write in stands for what it held, and
-- primed for what it holds afterwards.
use Rattle.std.specs.Prelude.{ℕ, List, ◌≡◌, Result}
use Rattle.octets.specs.declared.Endianness.{Endianness}
use Rattle.octets.specs.declared.Fault.{Fault}
use Rattle.octets.specs.Reader.{run}
use Rattle.dna.specs.declared.dna.DnaCounts.{DnaCounts}
use Rattle.dna.specs.declared.dna.DnaError.{DnaError}
use Rattle.dna.specs.declared.dna.DnaTable.{DnaTable}
use Rattle.dna.specs.Catalogue.{catalogue, counts_only, outcome_of, table_number, Filled}

abbrev pub «dna::DnaTable::number» : (self : DnaTable) → ℕ → Type 0
«dna::DnaTable::number» self r = r ≡ table_number self

abbrev pub dna::dna_counts : (payload : List ℕ) (endianness : Endianness) → Result (DnaCounts × ℕ) Fault → Type 0
dna::dna_counts payload endianness r = outcome_of r ≡ counts_only (run (catalogue endianness) payload 0)

abbrev pub «dna::dna» : (payload : List ℕ) (endianness : Endianness) (names types structs fields : List ℕ) → Result DnaCounts DnaError → List ℕ → List ℕ → List ℕ → List ℕ → Type 0
«dna::dna» payload endianness names types structs fields r names' types' structs' fields' = Filled (run (catalogue endianness) payload 0) r names types structs fields names' types' structs' fields'
