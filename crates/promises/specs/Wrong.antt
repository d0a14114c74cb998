-- A wrong contract of the same name as the right one: must-fail/code_by_another_rule.edit brings it in.
use Rattle.std.specs.Prelude.{ℕ, ◌≡◌, Option, None, List}

-- no block has a code
abbrev pub «runtime::code» : (number : ℕ) → Option (List ℕ) → Type 0
«runtime::code» number r = r ≡ None
