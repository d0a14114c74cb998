-- What each public call promises, by its name (crates/octets/specs/Calls.antt says how to read it).
use Rattle.std.specs.Prelude.{ℕ, Bool, List, ◌≡◌, Result, Option}
use Rattle.octets.specs.declared.Refusal.{Refusal}
use Rattle.runtime.specs.declared.runtime.Pointer.{Pointer}
use Rattle.runtime.specs.Views.{view_as, part_as, paper_view}
use Rattle.runtime.specs.Addresses.{matches, lookup_as, paper_pointer, code_as, paper_code}

abbrev pub «runtime::view» : (file table : List ℕ) (row : ℕ) → Result (Unit {0}) Refusal → Type 0
«runtime::view» file table row r = paper_view r ≡ view_as file table row

abbrev pub runtime::view_part : (file table : List ℕ) (row : ℕ) → List ℕ → Type 0
runtime::view_part file table row r = r ≡ part_as file table row

abbrev pub «runtime::matches» : (wanted code address : ℕ) → Bool → Type 0
«runtime::matches» wanted code address r = r ≡ matches wanted code address

abbrev pub runtime::get_ptr : (table : List ℕ) (rows address : ℕ) → Result Pointer Refusal → Type 0
runtime::get_ptr table rows address r = paper_pointer r ≡ lookup_as table rows address

abbrev pub «runtime::code» : (number : ℕ) → Option (List ℕ) → Type 0
«runtime::code» number r = paper_code r ≡ code_as number
