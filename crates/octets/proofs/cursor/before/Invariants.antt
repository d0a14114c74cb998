-- `before` counts on from a place, eight steps a turn. The invariant: there was none so far, so the count goes on from here.
use Prim.Native.Nat.{◌+◌, ◌-◌, ◌≤◌}
use mathlib.Core.Path.{◌≡◌}
use lib.ListN.{length, drop}
use Rattle.octets.specs.Reader as rules
use Rattle.octets.proofs.cursor.before.Given as goal

abbrev pub invariant-loop-i : goal.invariant-loop-i
invariant-loop-i l = (l.i ≤ length l.s) × (rules.before l.c l.s ≡ l.i + rules.before l.c (drop l.i l.s))

abbrev pub decreases-loop-i : goal.decreases-loop-i
decreases-loop-i l = length l.s - l.i
