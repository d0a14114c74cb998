-- What each public call promises, by its name (crates/octets/specs/Calls.antt says how to read it). A table that is lent to write in stands for what it held, and
-- primed for what it holds afterwards.
use Rattle.std.specs.Prelude.{ℕ, List, ◌≡◌, Result}
use Rattle.index.specs.declared.index.IndexError.{IndexError}
use Rattle.runtime.specs.declared.runtime.Pointer.{Pointer}
use Rattle.index.specs.Index.{indexed_as, heads_after, links_after, paper_indexed, found_as, paper_found}

abbrev pub «index::build» : (table : List ℕ) (rows buckets : ℕ) (heads links : List ℕ) → Result (Unit {0}) IndexError → List ℕ → List ℕ → Type 0
«index::build» table rows buckets heads links r heads' links' =
    (paper_indexed r ≡ indexed_as table rows buckets heads links)
    × (heads' ≡ heads_after table rows buckets heads links)
    × (links' ≡ links_after table rows buckets heads links)

abbrev pub «index::find» : (table : List ℕ) (rows buckets : ℕ) (heads links : List ℕ) (address : ℕ) → Result Pointer IndexError → Type 0
«index::find» table rows buckets heads links address r = paper_found r ≡ found_as table rows buckets heads links address
