-- `before_by_bytes` counts on from a place. The invariant: there was none so far, so the count goes on from here.
use Prim.Native.Nat.{◌+◌}
use mathlib.Core.Path.{◌≡◌}
use lib.ListN.{drop}
use Rattle.octets.specs.Reader as rules
use Rattle.octets.proofs.cursor.before_by_bytes.Given as goal

abbrev pub invariant-loop-i : goal.invariant-loop-i
invariant-loop-i l = rules.before l.c l.s ≡ l.i + rules.before l.c (drop l.i l.s)
