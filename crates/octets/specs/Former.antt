-- A fault on paper as it was before request 3 of document 02, when a cut and a wrong mark were both refusal 2 and carried nothing; and today's papers with 16 and 17 told as 2.
-- Kept for one law alone: together 16 and 17 occur exactly where 2 did (`WhereTwoWas` in crates/demands/specs/Malformed.antt). No contract names it.
use Rattle.std.specs.Prelude.{ℕ, true, false, List, [], ◌∷◌, ◌++◌, eqb}
use Rattle.octets.specs.declared.Fault.{Fault}
use Rattle.octets.specs.declared.Fault.TheVariants.{Cut, Mark}
use Rattle.octets.specs.Paper.{Paper}
use Rattle.octets.specs.Paper.Paper.{accepts, integer, real, refuses}
use Rattle.octets.specs.Reader.{Outcome}
use Rattle.octets.specs.Reader.Outcome.{read, fault}
use Rattle.octets.specs.Refusals.{number_of}

abbrev pub former_fault : Fault → Paper
former_fault (Cut at) = refuses 2 []
former_fault (Mark at) = refuses 2 []
former_fault (Fault.Refusal r) = refuses (number_of r) []

abbrev pub former_told : {A : Type 0} → (A → List ℕ) → Outcome A → Paper
former_told numbers (read a next) = accepts 0 (numbers a ++ (next ∷ []))
former_told numbers (fault f) = former_fault f

abbrev pub as_two : Paper → Paper
as_two (accepts kind vs) = accepts kind vs
as_two (integer z) = integer z
as_two (real x) = real x
as_two (refuses n vs) = elim (eqb n 16) [ true ↦ refuses 2 [] | false ↦ elim (eqb n 17) [ true ↦ refuses 2 [] | false ↦ refuses n vs ] ]
