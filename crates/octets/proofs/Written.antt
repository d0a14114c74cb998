-- What a call has written into a lent table, by the paper of its answer.
use Prim.Native.Nat.{ℕ}
use mathlib.Core.List.{List, []}
use mathlib.Core.Path.{◌≡◌, refl}
use Rattle.octets.specs.Paper.{Paper}
use Rattle.octets.specs.Paper.Paper.{accepts, integer, real, refuses}
use Rattle.octets.specs.Tables.{over, written}

unfoldable pub wrote : Paper → List ℕ → List ℕ
wrote (accepts n vs) new = new
wrote (integer i) new = new
wrote (real x) new = new
wrote (refuses n vs) new = []

pub written_over : (p : Paper) (new t : List ℕ) → written p new t ≡ over (wrote p new) t
unfolding wrote
written_over (accepts n vs) new t = refl
written_over (integer i) new t = refl
written_over (real x) new t = refl
written_over (refuses n vs) new t = refl
