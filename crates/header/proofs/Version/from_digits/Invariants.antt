-- `from_digits`: what was read so far goes on with the bytes that are left.
use Prim.Native.Nat.{◌^◌, ◌<◌}
use mathlib.Core.Path.{◌≡◌}
use lib.ListN.{drop}
use Rattle.header.specs.Header.{decimal}
use Rattle.header.proofs.Version.from_digits.Given as goal

abbrev pub invariant-loop-d : goal.invariant-loop-d
invariant-loop-d l = (decimal 0 l.digits ≡ decimal l.combined (drop l.d-index l.digits)) × (l.combined < 10 ^ l.d-index)
