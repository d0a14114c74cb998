-- What each public call promises, by its name (crates/octets/specs/Calls.antt says how to read it): what the calls on plain parameters do, of the file that a walker
-- holds and of a list of rows.
use Rattle.std.specs.Prelude.{ℕ, Bool, List, ◌≡◌, Result}
use Rattle.std.specs.Borrow.{Bor}
use Rattle.block.specs.declared.Row.{Row}
use Rattle.walker.specs.declared.Place.{Place}
use Rattle.walker.specs.declared.Step.{Step}
use Rattle.runtime.specs.declared.runtime.Pointer.{Pointer}
use Rattle.octets.specs.declared.Refusal.{Refusal}
use Rattle.walker.specs.Calls.{«Place::step»}
use Rattle.walker.specs.Walker.{start}
use Rattle.runtime.specs.Addresses.{paper_pointer}
use Rattle.held.specs.declared.Walker.{Walker}
use Rattle.held.specs.Held.{is_row, lookup_rows}

abbrev pub step_at : (file : List ℕ) (place : Place) → Step → Type 0
step_at file place r = «Place::step» place file r

abbrev pub «over» : (file : Bor (List ℕ)) → Walker → Type 0
«over» file r = (r.file ≡ file) × (r.place ≡ start)

abbrev pub «next» : (w : Walker) → Step → Type 0
«next» w r = «Place::step» w.place w.file.now r

abbrev pub «moved» : (w : Walker) (place : Place) → Walker → Type 0
«moved» w place r = (r.file ≡ w.file) × (r.place ≡ place)

abbrev pub step_from : (file : List ℕ) (place : Place) → Step → Type 0
step_from file place r = «Place::step» place file r

abbrev pub row_is : (row : Row) (address : ℕ) → Bool → Type 0
row_is row address r = r ≡ is_row address row

abbrev pub find_row : (rows : List Row) (n address : ℕ) → Result Pointer Refusal → Type 0
find_row rows n address r = paper_pointer r ≡ lookup_rows rows n address

abbrev pub find_in : (rows : List Row) (n address : ℕ) → Result Pointer Refusal → Type 0
find_in rows n address r = paper_pointer r ≡ lookup_rows rows n address
