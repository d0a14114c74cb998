-- What each public call promises, by its name (crates/octets/specs/Calls.antt says how to read it).
use Rattle.std.specs.Prelude.{ℕ, List, ◌≡◌}
use Rattle.header.specs.Header.{header_bytes}
use Rattle.walker.specs.declared.Place.{Place}
use Rattle.walker.specs.declared.Step.{Step}
use Rattle.walker.specs.Walker.{Stepped, start}

abbrev pub «Place::start» : Place → Type 0
«Place::start» r = r ≡ start

abbrev pub «Place::step» : (self : Place) (file : List ℕ) → Step → Type 0
«Place::step» self file r = Stepped header_bytes file self r
