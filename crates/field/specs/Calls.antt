-- What each public call promises, by its name (crates/octets/specs/Calls.antt says how to read it). A table that is lent to write in stands for what it held, and
-- primed for what it holds afterwards.
use Rattle.std.specs.Prelude.{ℕ, List, ◌≡◌, length, Result}
use Rattle.octets.specs.declared.Fault.{Fault}
use Rattle.octets.specs.declared.PointerSize.{PointerSize}
use Rattle.octets.specs.declared.Refusal.{Refusal}
use Rattle.field.specs.declared.field.Declarator.{Declarator}
use Rattle.field.specs.declared.field.FieldError.{FieldError}
use Rattle.field.specs.Declarators.{declared, function_as, scanned_as, parsed_as, filled_by, width_as, paper_function, paper_scanned, paper_field, paper_width}

abbrev pub field::fn_pointer : (name : List ℕ) → Result Declarator Fault → Type 0
field::fn_pointer name r = paper_function r ≡ function_as name

abbrev pub field::scan_field : (name : List ℕ) → Result Declarator Refusal → Type 0
field::scan_field name r = paper_scanned r ≡ scanned_as (declared name)

abbrev pub field::parse_field : (name dimensions : List ℕ) → Result Declarator FieldError → List ℕ → Type 0
field::parse_field name dimensions r dimensions' = (paper_field r ≡ parsed_as (declared name) (length dimensions)) × (dimensions' ≡ filled_by (declared name) dimensions)

abbrev pub «field::width» : (d : Declarator) (size : ℕ) (pointer_size : PointerSize) → Result ℕ Refusal → Type 0
«field::width» d size pointer_size r = paper_width r ≡ width_as d size pointer_size
