-- `store`: a byte a turn, up to the last.
use Prim.Native.Nat.{◌+◌}
use mathlib.Core.List.{[], ◌∷◌}
use mathlib.Core.Path.{◌≡◌, refl}
use native.Mathlib.Numerals.{add-one}
use native.Mathlib.Omega.{arith}
use lib.ListN.{get_or, drop, length-drop, drop_of_length-le}
use lib.Seq.{drop-cons}
use Rattle.octets.specs.Helpers.{put}
use Rattle.octets.proofs.Filling.{storing_starts, storing_ends, row-stored}
use Rattle.writer.proofs.sink.store.Goals as goal

pub loop-i-init : goal.loop-i-init
loop-i-init c =
    let e : c.args.at + 0 ≡ c.args.at = omega arith in
    rw e (storing_starts _ _ _ c.requires)

pub bounds-out-at : goal.bounds-out-at
bounds-out-at c =
    let l = c.loop-i in
    omega (arith, l.invariant.room, length-drop l.i c.args.part.now)

pub loop-i-preserved : goal.loop-i-preserved
unfolding put
loop-i-preserved c =
    let part = c.args.part.now in
    let l = c.loop-i in
    let e : drop l.i part ≡ get_or part l.i 0 ∷ drop (l.i + 1) part = rw add-one (drop-cons part l.i 0 c.loop-i-test.true) in
    row-stored _ _ _ _ _ (get_or part l.i 0 ∷ []) _ _ l.invariant e _ _ refl (omega arith)

pub returns : goal.returns
returns c = storing_ends _ _ _ _ _ _ c.loop-i.invariant (drop_of_length-le _ c.loop-i-test.false)
