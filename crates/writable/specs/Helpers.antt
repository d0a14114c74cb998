-- What inner functions ensure. No rule uses it.
use Rattle.std.specs.Prelude.{ℕ, ◌-◌, ◌^◌, true, false, ltb, Option, Some, None}

-- a number that is below another, or none
abbrev pub before : (n end : ℕ) → Option ℕ
before n end = elim (ltb n end) [ true ↦ Some n | false ↦ None ]

-- a length that 64 bits hold, or that they do not
abbrev pub length_of : ℕ → Option ℕ
length_of n = elim (ltb (2 ^ 64 - 1) n) [ true ↦ None | false ↦ Some n ]
