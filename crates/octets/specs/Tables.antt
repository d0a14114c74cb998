-- A lent table after a call: the numbers that the call writes, from the front, and then what the table held. A refusal writes nothing.
use Rattle.std.specs.Prelude.{ℕ, List, ◌++◌, length, drop}
use Rattle.octets.specs.Paper.{Paper}
use Rattle.octets.specs.Paper.Paper.{accepts, integer, real, refuses}

abbrev pub over : List ℕ → List ℕ → List ℕ
over new t = new ++ drop (length new) t

-- by the paper of the answer
abbrev pub written : Paper → List ℕ → List ℕ → List ℕ
written (accepts kind vs) new t = over new t
written (integer z) new t = over new t
written (real x) new t = over new t
written (refuses n vs) new t = t
