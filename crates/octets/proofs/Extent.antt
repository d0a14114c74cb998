-- How far a tree comes: a find ends no earlier than it began (`grows`, in Unaltered.antt), and no later than the bytes, unless it read nothing.
use Prim.Native.Nat.{ℕ, ◌+◌, ◌-◌, ◌≤◌, ◌<◌, max}
use mathlib.Core.Bool.{Bool, true, false}
use mathlib.Core.List.{List}
use mathlib.Core.Path.{◌≡◌, refl, subst}
use native.Mathlib.Omega.{arith}
use borrow.Author.Tests.{leb-true, ltb-true}
use lib.ListN.{length, take, drop}
use Rattle.octets.specs.declared.Fault.{Fault}
use Rattle.octets.specs.Helpers.{Placed}
use Rattle.octets.specs.Reader.{Reader, Outcome, run, room, ended_by, stands, before}
use Rattle.octets.specs.Reader.Reader.{done, refuse, stray, here, bytes, skip, until, begins}
use Rattle.octets.specs.Reader.Outcome.{read, fault}
use Rattle.octets.proofs.Marks.{stands-room}
use Rattle.octets.proofs.Same.{Finds}
use Rattle.octets.proofs.Unaltered.{grows, way}

abbrev Ends : {A : Type 0} → List ℕ → ℕ → A → ℕ → Type 0
Ends s at a next = next ≤ max at (length s)

-- after n bytes that are there
on : {A : Type 0} (s : List ℕ) (at n : ℕ) (o : Outcome A) → at + n ≤ length s → Finds o (Ends s (at + n)) → Finds o (Ends s at)
on s at n (read a next) h f = omega arith
on s at n (fault x) h f = tt

within : {A : Type 0} (r : Reader A) (s : List ℕ) (at : ℕ) → Finds (run r s at) (Ends s at)
unfolding run
within (done a) s at = omega arith
within (refuse n) s at = tt
within (stray n) s at = tt
within (here k) s at = within (k at) s at
within (bytes n k) s at =
    let o = run (k (take n (drop at s))) s (at + n) in
    way (Ends s at) (room s at n) o _ (λ e. on s at n o (leb-true _ _ e) (within (k (take n (drop at s))) s (at + n))) (λ e. tt)
within (skip n r) s at = way (Ends s at) (room s at n) (run r s (at + n)) _ (λ e. on s at n (run r s (at + n)) (leb-true _ _ e) (within r s (at + n))) (λ e. tt)
within (until end k) s at =
    let z = before end (drop at s) in
    let o = run (k z) s (at + (z + 1)) in
    way (Ends s at) (ended_by end s at) o _
    (λ e. let h : at + before end (drop at s) < length s = ltb-true _ _ e in on s at (before end (drop at s) + 1) o (omega arith) (within (k z) s (at + (z + 1)))) (λ e. tt)
within (begins m on' off) s at =
    let o = run on' s (at + length m) in
    way (Ends s at) (stands s at m) o (run off s at) (λ e. later s at m o e (within on' s (at + length m))) (λ e. within off s at)
  where
    later : {A : Type 0} (s : List ℕ) (at : ℕ) (m : List ℕ) (o : Outcome A) → stands s at m ≡ true → Finds o (Ends s (at + length m)) → Finds o (Ends s at)
    later s at m (read a next) e f = omega (arith, stands-room s at m e)
    later s at m (fault x) e f = tt

-- the same of a find that is given
module _ {A : Type 0} (r : Reader A) (s : List ℕ) (at : ℕ) (a : A) (next : ℕ) (h : run r s at ≡ read a next) where
  pub ends-after : at ≤ next
  ends-after = subst (λ (o : Outcome A). Finds o (λ (b : A) (n : ℕ). at ≤ n)) h (grows r s at)

  pub ends-within : next - at ≤ length s
  ends-within =
      let f : next ≤ max at (length s) = subst (λ (o : Outcome A). Finds o (Ends s at)) h (within r s at) in
      omega arith

-- A fault's place is not after the bytes, unless reading began there.
abbrev Stops : {A : Type 0} → ℕ → Outcome A → Type 0
Stops n (read a next) = Unit {0}
Stops n (fault x) = Placed n x

by_way : {A : Type 0} (n : ℕ) (b : Bool) (o p : Outcome A) → (b ≡ true → Stops n o) → (b ≡ false → Stops n p) → Stops {A = A} n (elim b as (λ (c : Bool). Outcome A) [ true ↦ o | false ↦ p ])
by_way n true o p f g = f refl
by_way n false o p f g = g refl

stop_within : {A : Type 0} (r : Reader A) (s : List ℕ) (at n : ℕ) → at ≤ n → length s ≤ n → Stops n (run r s at)
unfolding run
stop_within (done a) s at n h l = tt
stop_within (refuse k) s at n h l = tt
stop_within (stray k) s at n h l = omega arith
stop_within (here k) s at n h l = stop_within (k at) s at n h l
stop_within (bytes m k) s at n h l =
    by_way n (room s at m) (run (k (take m (drop at s))) s (at + m)) _ (λ e. let g : at + m ≤ length s = leb-true _ _ e in stop_within (k (take m (drop at s))) s (at + m) n (omega arith) l) (λ e. h)
stop_within (skip m r) s at n h l =
    by_way n (room s at m) (run r s (at + m)) _ (λ e. let g : at + m ≤ length s = leb-true _ _ e in stop_within r s (at + m) n (omega arith) l) (λ e. h)
stop_within (until end k) s at n h l =
    let z = before end (drop at s) in
    by_way n (ended_by end s at) (run (k z) s (at + (z + 1))) _
    (λ e. let g : at + before end (drop at s) < length s = ltb-true _ _ e in stop_within (k z) s (at + (z + 1)) n (omega arith) l) (λ e. h)
stop_within (begins m on' off) s at n h l =
    by_way n (stands s at m) (run on' s (at + length m)) (run off s at)
    (λ e. let g : length m ≤ length s - at = stands-room s at m e in stop_within on' s (at + length m) n (omega arith) l) (λ e. stop_within off s at n h l)

pub stops-within : {A : Type 0} (r : Reader A) (s : List ℕ) (x : Fault) → run r s 0 ≡ fault x → Placed (length s) x
stops-within {A} r s x h = subst (λ (o : Outcome A). Stops (length s) o) h (stop_within r s 0 (length s) (omega arith) (omega arith))
