-- Bytes that are cut: what a tree found in them it finds no more where they now end before that find does. It stops with a cut, whose place is not after their end.
use Prim.Native.Nat.{ℕ, zero, suc, ◌+◌, ◌≤◌, ◌<◌}
use mathlib.Core.Bool.{Bool, true, false}
use mathlib.Core.List.{List}
use mathlib.Core.Path.{◌≡◌, refl, sym, ◌∙◌, ap, subst}
use native.Mathlib.Omega.{arith}
use borrow.Author.Tests.{leb-true, leb-false, le-leb, lt-leb, ltb-true}
use lib.Dec.{leb}
use lib.ListN.{length, take, drop}
use lib.Seq.{length-take-le}
use Rattle.octets.specs.declared.Fault.TheVariants.{Cut}
use Rattle.octets.specs.Number.{tag}
use Rattle.octets.specs.Reader.{Reader, Outcome, run, then, times, same, room, ended_by, stands, before}
use Rattle.octets.specs.Reader.Reader.{done, refuse, stray, here, bytes, skip, until, begins}
use Rattle.octets.specs.Reader.Outcome.{read, fault}
use Rattle.octets.proofs.Marks.{stands-cut}
use Rattle.octets.proofs.Parts.{inner}
use Rattle.octets.proofs.Same.{Finds}
use Rattle.octets.proofs.Tests.{held, failed}
use Rattle.octets.proofs.Times.{stops}
use Rattle.octets.proofs.Unaltered.{way, mapped, until-same}

-- a cut, no further on than n
abbrev pub CutWithin : {A : Type 0} → ℕ → Outcome A → Type 0
CutWithin n o = (at : ℕ) × (o ≡ fault (Cut at)) × (at ≤ n)

-- a mark for which there is no room is followed by a tree for which there is none
abbrev pub Wanting : {A : Type 0} → Reader A → Type 0
Wanting (done a) = Unit {0}
Wanting (refuse n) = Unit {0}
Wanting (stray n) = Unit {0}
Wanting (here k) = (n : ℕ) → Wanting (k n)
Wanting (bytes n k) = (b : List ℕ) → Wanting (k b)
Wanting (skip n r) = Wanting r
Wanting (until c k) = (n : ℕ) → Wanting (k n)
Wanting (begins m on off) = Wanting on × Wanting off × ((s : List ℕ) (at : ℕ) → at ≤ length s → length s < at + length m → CutWithin (length s) (run off s at))

-- of any find
always : {A : Type 0} (P : A → ℕ → Type 0) (o : Outcome A) → ((a : A) (next : ℕ) → P a next) → Finds o P
always P (read a next) f = f a next
always P (fault x) f = tt

module _ (s : List ℕ) (k : ℕ) (l : k ≤ length s) where
  abbrev short : List ℕ
  short = take k s

  long : length short ≡ k
  long = length-take-le k s l

  -- a part that ends in time is the same
  same-part : (at n : ℕ) → at + n ≤ k → take n (drop at short) ≡ take n (drop at s)
  same-part at n h = inner at n k s h

  abbrev Falls : {A : Type 0} → Reader A → ℕ → A → ℕ → Type 0
  Falls r at a next = k < next → CutWithin k (run r short at)

  -- a read of n bytes that ends in time goes on, and one that does not is cut
  stepped : {A : Type 0} (r q : Reader A) (at n : ℕ) (o : Outcome A) → at ≤ k → (at + n ≤ k → run r short at ≡ run q short (at + n)) → (k < at + n → run r short at ≡ fault (Cut at))
      → (at + n ≤ k → Finds o (Falls q (at + n))) → Finds o (Falls r at)
  stepped {A} r q at n o b f g h = go (leb (at + n) k) refl
    where
      go : (t : Bool) → leb (at + n) k ≡ t → Finds o (Falls r at)
      go true t =
          let e = leb-true _ _ t in
          mapped (Falls q (at + n)) (Falls r at) o (λ a next p m. subst (CutWithin k) (sym (f e)) (p m)) (h e)
      go false t = always (Falls r at) o (λ a next m. (at, g (leb-false _ _ t), b))

  room_in : (at n : ℕ) → at + n ≤ k → room short at n ≡ true
  room_in at n h = le-leb (at + n) (length short) (omega (arith, long))

  room_out : (at n : ℕ) → k < at + n → room short at n ≡ false
  room_out at n h = lt-leb (at + n) (length short) (omega (arith, long))

  -- a run to a byte that was found at z
  module _ {A : Type 0} (c : ℕ) (f : ℕ → Reader A) (at : ℕ) (e : ended_by c s at ≡ true) where
    abbrev z : ℕ
    z = before c (drop at s)

    until-on : at + (z + 1) ≤ k → run (until c f) short at ≡ run (f z) short (at + (z + 1))
    unfolding run
    until-on h =
        let y = until-same c s at short at e (omega (arith, long)) (same-part at (z + 1) h) in
        held _ _ y.1 ∙ ap (λ (n : ℕ). run (f n) short (at + (n + 1))) y.0

    until-cut : k < at + (z + 1) → run (until c f) short at ≡ fault (Cut at)
    unfolding run
    until-cut h = go (ended_by c short at) refl
      where
        go : (t : Bool) → ended_by c short at ≡ t → run (until c f) short at ≡ fault (Cut at)
        go true t =
            let y : ℕ = before c (drop at short) in
            let i : at + before c (drop at short) < length short = ltb-true _ _ t in
            let q = until-same c short at s at t (omega (arith, long)) (sym (same-part at (y + 1) (omega (arith, long)))) in
            absurd (omega (arith, long, q.0))
        go false t = failed _ _ t

  -- a mark
  module _ {A : Type 0} (m : List ℕ) (on off : Reader A) (at : ℕ) where
    stands_same : at + length m ≤ k → stands short at m ≡ stands s at m
    stands_same h = ap (λ (b : List ℕ). same b m) (same-part at (length m) h)

    stands-out : k < at + length m → at ≤ k → stands short at m ≡ false
    stands-out h b = sym (stands-cut short at m (λ n. absurd (omega arith)) (omega (arith, long)))

  falls : {A : Type 0} (r : Reader A) → Wanting r → (at : ℕ) → at ≤ k → Finds (run r s at) (Falls r at)
  unfolding run
  falls (done a) w at b = λ m. absurd (omega arith)
  falls (refuse n) w at b = tt
  falls (stray n) w at b = tt
  falls (here f) w at b = falls (f at) (w at) at b
  falls (bytes n f) w at b =
      let p = take n (drop at s) in
      way (Falls (bytes n f) at) (room s at n) (run (f p) s (at + n)) _
      (λ e.
      stepped (bytes n f) (f p) at n (run (f p) s (at + n)) b (λ h. held _ _ (room_in at n h) ∙ ap (λ (u : List ℕ). run (f u) short (at + n)) (same-part at n h))
      (λ h. failed _ _ (room_out at n h)) (λ h. falls (f p) (w p) (at + n) h)) (λ e. tt)
  falls (skip n r) w at b =
      way (Falls (skip n r) at) (room s at n) (run r s (at + n)) _
      (λ e. stepped (skip n r) r at n (run r s (at + n)) b (λ h. held _ _ (room_in at n h)) (λ h. failed _ _ (room_out at n h)) (λ h. falls r w (at + n) h)) (λ e. tt)
  falls (until c f) w at b =
      let y = before c (drop at s) in
      way (Falls (until c f) at) (ended_by c s at) (run (f y) s (at + (y + 1))) _
      (λ e. stepped (until c f) (f y) at (y + 1) (run (f y) s (at + (y + 1))) b (until-on c f at e) (until-cut c f at e) (λ h. falls (f y) (w y) (at + (y + 1)) h)) (λ e. tt)
  falls (begins m on off) w at b =
      way (Falls (begins m on off) at) (stands s at m) (run on s (at + length m)) (run off s at) (λ e. there e (leb (at + length m) k) refl (falls on w.0 (at + length m)))
      (λ e. missing (leb (at + length m) k) refl e (falls off w.1 at b))
    where
      over : k < at + length m → CutWithin k (run (begins m on off) short at)
      over h =
          let c = w.2 short at (omega (arith, long)) (omega (arith, long)) in
          (c.0, failed _ _ (stands-out m on off at h b) ∙ c.1, omega (arith, long, c.2))

      there : stands s at m ≡ true → (t : Bool) → leb (at + length m) k ≡ t → (at + length m ≤ k → Finds (run on s (at + length m)) (Falls on (at + length m)))
          → Finds (run on s (at + length m)) (Falls (begins m on off) at)
      there e true t f =
          let h = leb-true _ _ t in
          let i : run (begins m on off) short at ≡ run on short (at + length m) = held _ _ (stands_same m on off at h ∙ e) in
          mapped (Falls on (at + length m)) (Falls (begins m on off) at) (run on s (at + length m)) (λ a next p q. subst (CutWithin k) (sym i) (p q)) (f h)
      there e false t f = always (Falls (begins m on off) at) (run on s (at + length m)) (λ a next q. over (leb-false _ _ t))

      missing : (t : Bool) → leb (at + length m) k ≡ t → stands s at m ≡ false → Finds (run off s at) (Falls off at) → Finds (run off s at) (Falls (begins m on off) at)
      missing true t e f =
          let i : run (begins m on off) short at ≡ run off short at = failed _ _ (stands_same m on off at (leb-true _ _ t) ∙ e) in
          mapped (Falls off at) (Falls (begins m on off) at) (run off s at) (λ a next p q. subst (CutWithin k) (sym i) (p q)) f
      missing false t e f = always (Falls (begins m on off) at) (run off s at) (λ a next q. over (leb-false _ _ t))

  pub cut-read : {A : Type 0} (r : Reader A) → Wanting r → (at : ℕ) (a : A) (next : ℕ) → run r s at ≡ read a next → at ≤ k → k < next → CutWithin k (run r (take k s) at)
  cut-read {A} r w at a next e b h = subst (λ (o : Outcome A). Finds o (Falls r at)) e (falls r w at b) h

-- of a tree and another that follows it, of a tree again and again, and of a mark
pub wanting_then : {A B : Type 0} (r : Reader A) (f : A → Reader B) → Wanting r → ((a : A) → Wanting (f a)) → Wanting (then r f)
unfolding then
wanting_then (done a) f w g = g a
wanting_then (refuse n) f w g = tt
wanting_then (stray n) f w g = tt
wanting_then (here k) f w g = λ at. wanting_then (k at) f (w at) g
wanting_then (bytes n k) f w g = λ b. wanting_then (k b) f (w b) g
wanting_then (skip n r) f w g = wanting_then r f w g
wanting_then (until c k) f w g = λ n. wanting_then (k n) f (w n) g
wanting_then (begins m on off) f w g = (
  wanting_then on f w.0 g,
  wanting_then off f w.1 g,
  λ s at h l.
      let c = w.2 s at h l in
      (c.0, stops off f s at (Cut c.0) c.1, c.2),
)

pub wanting_times : {A : Type 0} (n : ℕ) (r : Reader A) → Wanting r → Wanting (times n r)
unfolding times
wanting_times zero r w = tt
wanting_times (suc n) r w = wanting_then r _ w (λ a. wanting_then (times n r) _ (wanting_times n r w) (λ rest. tt))

pub wanting_tag : {A : Type 0} (m : List ℕ) (r : Reader A) → Wanting r → Wanting (tag m r)
wanting_tag {A} m r w = λ b. go (same b m)
  where
    go : (c : Bool) → Wanting {A = A} (elim c as (λ (d : Bool). Reader A) [ true ↦ r | false ↦ stray (length m) ])
    go true = w
    go false = tt
