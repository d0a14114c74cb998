-- The numbers of the refusals that have a name: number_of (Refusals.antt) gives each of them. No definition here knows the type of the refusals, since a number that is none
-- of these is a part of it.
use Rattle.std.specs.Prelude.{ℕ, Bool, ◌||◌, eqb}

abbrev pub listed : ℕ → Bool
listed n = eqb n 1 || eqb n 3 || eqb n 4 || eqb n 5 || eqb n 6 || eqb n 9 || eqb n 10 || eqb n 12 || eqb n 13 || eqb n 15
