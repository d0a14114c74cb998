-- `strings`: the strings that are left are read from where the loop stands, as the tree reads them from its start.
use Prim.Native.Nat.{◌-◌}
use mathlib.Core.Path.{◌≡◌}
use Rattle.octets.specs.Helpers.{past}
use Rattle.octets.specs.Reader.{run, times}
use Rattle.dna.specs.Catalogue.{text}
use Rattle.dna.proofs.dna.strings.Given as goal

abbrev pub invariant-loop : goal.invariant-loop
invariant-loop l = past (run (times l.n text) l.s l.fn.c.at) ≡ past (run (times (l.n - l.counter) text) l.s l.here.at)
