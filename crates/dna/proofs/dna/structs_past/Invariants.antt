-- `structs_past`: as `strings`, with structs, and with the sum of their counts. The sum is below the payload's length, so it fits.
use Prim.Native.Nat.{◌-◌, ◌≤◌}
use mathlib.Core.Path.{◌≡◌}
use Rattle.octets.specs.Reader.{run, times}
use Rattle.dna.specs.Catalogue.{struct}
use Rattle.dna.specs.Passes.{totalled}
use Rattle.dna.proofs.dna.structs_past.Given as goal

abbrev pub invariant-loop : goal.invariant-loop
invariant-loop l =
    (totalled 0 (run (times l.n (struct l.e)) l.s l.fn.c.at) ≡ totalled l.fields (run (times (l.n - l.counter) (struct l.e)) l.s l.here.at)) × (l.fields ≤ l.here.at)
