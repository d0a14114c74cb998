-- What a tree found in one run of bytes it finds in any other that agrees where it looked and is long enough: `unaltered`, the last law here.
use Prim.Native.Nat.{ℕ, suc, ◌+◌, ◌-◌, ◌≤◌, ◌<◌}
use mathlib.Core.Bool.{Bool, true, false}
use mathlib.Core.List.{List, [], ◌∷◌}
use mathlib.Core.Path.{◌≡◌, refl, sym, ◌∙◌, ap, subst}
use native.Mathlib.Nat.{le_refl}
use native.Mathlib.Omega.{arith}
use borrow.Author.Tests.{le-leb, lt-ltb, ltb-true}
use lib.Dec.{eqb}
use lib.ListN.{length, take, drop, length-drop}
use native.Mathlib.Numerals.{add-one}
use Rattle.octets.specs.declared.Fault.{Fault}
use Rattle.octets.specs.declared.Fault.TheVariants.{Cut}
use Rattle.octets.specs.Looks.{looks, Agree}
use Rattle.octets.specs.Reader.{Reader, Outcome, run, room, ended_by, stands, same, nearer, before}
use Rattle.octets.specs.Reader.Reader.{done, refuse, stray, here, bytes, skip, until, begins}
use Rattle.octets.specs.Reader.Outcome.{read, fault}
use Rattle.octets.proofs.Same.{Same, Finds, Again, again, Anchored}

-- from two things said of a find to a third
both : {A : Type 0} (P Q R : A → ℕ → Type 0) (o : Outcome A) → ((a : A) (next : ℕ) → P a next → Q a next → R a next) → Finds o P → Finds o Q → Finds o R
both P Q R (read a next) f p q = f a next p q
both P Q R (fault x) f p q = tt

-- what holds of both ways of a test holds of the way that is taken
pub way : {A : Type 0} (P : A → ℕ → Type 0) (b : Bool) (o p : Outcome A) → (b ≡ true → Finds o P) → (b ≡ false → Finds p P)
    → Finds (elim b as (λ (c : Bool). Outcome A) [ true ↦ o | false ↦ p ]) P
way P true o p f g = f refl
way P false o p f g = g refl

further : {A : Type 0} (at n : ℕ) (o : Outcome A) → Finds o (λ (a : A) (next : ℕ). at + n ≤ next) → Finds o (λ (a : A) (next : ℕ). at ≤ next)
further at n (read a next) h = omega arith
further at n (fault x) h = tt

-- a find ends no earlier than it began
pub grows : {A : Type 0} (r : Reader A) (s : List ℕ) (at : ℕ) → Finds (run r s at) (λ (a : A) (next : ℕ). at ≤ next)
unfolding run
grows (done a) s at = le_refl at
grows (refuse n) s at = tt
grows (stray n) s at = tt
grows (here k) s at = grows (k at) s at
grows (bytes n k) s at =
    let o = run (k (take n (drop at s))) s (at + n) in
    way (λ a next. at ≤ next) (room s at n) o (fault (Cut at)) (λ e. further at n o (grows (k (take n (drop at s))) s (at + n))) (λ e. tt)
grows (skip n r) s at = way (λ a next. at ≤ next) (room s at n) (run r s (at + n)) (fault (Cut at)) (λ e. further at n (run r s (at + n)) (grows r s (at + n))) (λ e. tt)
grows (until end k) s at =
    let z = before end (drop at s) in
    let o = run (k z) s (at + (z + 1)) in
    way (λ a next. at ≤ next) (ended_by end s at) o (fault (Cut at)) (λ e. further at (z + 1) o (grows (k z) s (at + (z + 1)))) (λ e. tt)
grows (begins m on off) s at =
    let o = run on s (at + length m) in
    way (λ a next. at ≤ next) (stands s at m) o (run off s at) (λ e. further at (length m) o (grows on s (at + length m))) (λ e. grows off s at)

-- a run that agrees with another up to its first byte of a kind has its first there too
end-there : (end : ℕ) (l l' : List ℕ) → before end l < length l → take (suc (before end l)) l' ≡ take (suc (before end l)) l → before end l' ≡ before end l
end-there end [] l' h e = absurd (omega arith)
end-there end (b ∷ bs) [] h e = absurd (omega (arith, ap length e))
end-there end (b ∷ bs) (c ∷ cs) h e = go (eqb b end) refl (end-there end bs cs)
  where
    first : c ≡ b
    first = cc

    go : (z : Bool) → eqb b end ≡ z → (before end bs < length bs → take (suc (before end bs)) cs ≡ take (suc (before end bs)) bs → before end cs ≡ before end bs)
        → nearer (eqb c end) (before end cs) ≡ nearer (eqb b end) (before end bs)
    go true q f = rw (first, q) refl
    go false q f =
        let h' : suc (before end bs) < suc (length bs) = rw q at h in
        let e' : (c ∷ take (suc (before end bs)) cs) ≡ (b ∷ take (suc (before end bs)) bs) = rw q at e in
        rw (first, q) (ap suc (f (omega arith) (cc)))

pub until-same : (end : ℕ) (s : List ℕ) (at : ℕ) (t : List ℕ) (to : ℕ) → ended_by end s at ≡ true → to + (before end (drop at s) + 1) ≤ length t
    → take (before end (drop at s) + 1) (drop to t) ≡ take (before end (drop at s) + 1) (drop at s) → (before end (drop to t) ≡ before end (drop at s)) × (ended_by end t to ≡ true)
until-same end s at t to e l w =
    let h : at + before end (drop at s) < length s = ltb-true _ _ e in
    let z : before end (drop to t) ≡ before end (drop at s) = end-there end (drop at s) (drop to t) (rw length-drop (omega arith)) (rw add-one at w) in
    let g : to + before end (drop at s) < length t = omega arith in
    (z, rw z (lt-ltb _ _ g))

pub mapped : {A : Type 0} (P Q : A → ℕ → Type 0) (o : Outcome A) → ((a : A) (next : ℕ) → P a next → Q a next) → Finds o P → Finds o Q
mapped P Q (read a next) f p = f a next p
mapped P Q (fault x) f p = tt

-- only how far the two places are apart matters
pub agree_shifted : (ps : List (ℕ × ℕ)) (s : List ℕ) (at : ℕ) (t : List ℕ) (to at' to' : ℕ) → at + to' ≡ at' + to → Agree ps s at t to → Agree ps s at' t to'
agree_shifted [] s at t to at' to' d w = tt
agree_shifted (p ∷ ps) s at t to at' to' d w = (λ q e. w.0 q (omega arith), agree_shifted ps s at t to at' to' d w.1)

module _ (s t : List ℕ) where
  -- t, if it goes as far from `to` as the find from `at`, shows the tree the same
  abbrev Shows : {A : Type 0} → Reader A → ℕ → ℕ → A → ℕ → Type 0
  Shows r at to a next = (k : ℕ) → next ≡ at + k → to + k ≤ length t → Same r s at t to

  -- one read and the tree that is left: where the test holds, what the left tree shows the same makes the whole show the same
  stepwise : {A : Type 0} (r r' : Reader A) (c : Bool) (at to n : ℕ) (x : Fault)
      → Agree (elim c as (λ (b : Bool). List (ℕ × ℕ)) [ true ↦ looks r' s (at + n) | false ↦ [] ]) s at t to
      → (Agree (looks r' s (at + n)) s (at + n) t (to + n) → Finds (run r' s (at + n)) (Shows r' (at + n) (to + n)))
      → (c ≡ true → to + n ≤ length t → Same r' s (at + n) t (to + n) → Same r s at t to)
      → Finds (elim c as (λ (b : Bool). Outcome A) [ true ↦ run r' s (at + n) | false ↦ fault x ]) (Shows r at to)
  stepwise r r' true at to n x v f g =
      both (λ a next. at + n ≤ next) (Shows r' (at + n) (to + n)) (Shows r at to) (run r' s (at + n))
      (λ a next p q k e h. g refl (omega arith) (q (k - n) (omega arith) (omega arith)))
      (grows r' s (at + n)) (f (agree_shifted (looks r' s (at + n)) s at t to (at + n) (to + n) (omega arith) v))
  stepwise r r' false at to n x v f g = tt

  -- A find, and a t that agrees in every span that was looked at and goes at least as far: t shows the tree the same.
  pub look_same : {A : Type 0} (E : Type 0) (r : Reader A) → Anchored E r → (at to : ℕ) → (E → to ≡ at) → Agree (looks r s at) s at t to → Finds (run r s at) (Shows r at to)
  unfolding run
  look_same E (done a) v at to c w = λ k e h. tt
  look_same E (refuse n) v at to c w = tt
  look_same E (stray n) v at to c w = tt
  look_same E (here k) v at to c w =
      mapped (Shows (k at) at to) (Shows (here k) at to) (run (k at) s at) (λ a next p j e h. (c v.0, p j e h)) (look_same E (k at) (v.1 at) at to c w)
  look_same E (bytes n k) v at to c w =
      let b = take n (drop at s) in
      stepwise (bytes n k) (k b) (room s at n) at to n (Cut at) w.1 (look_same E (k b) (v b) (at + n) (to + n) (λ x. ap (λ (m : ℕ). m + n) (c x)))
      (λ e l q. (le-leb _ _ l ∙ sym e, w.0 to (omega arith), q))
  look_same E (skip n r) v at to c w =
      stepwise (skip n r) r (room s at n) at to n (Cut at) w (look_same E r v (at + n) (to + n) (λ x. ap (λ (m : ℕ). m + n) (c x))) (λ e l q. (le-leb _ _ l ∙ sym e, q))
  look_same E (until end k) v at to c w =
      let z = before end (drop at s) in
      stepwise (until end k) (k z) (ended_by end s at) at to (z + 1) (Cut at) w.1
      (look_same E (k z) (v z) (at + (z + 1)) (to + (z + 1)) (λ x. ap (λ (m : ℕ). m + (z + 1)) (c x)))
      (λ e l q.
      let y = until-same end s at t to e l (w.0 to (omega arith)) in
      (y.1 ∙ sym e, y.0, q))
  look_same {A} E (begins m on off) v at to c w =
      mapped {A = A} (λ a next. (k : ℕ) → next ≡ at + k → to + k ≤ length t → Left (stands s at m)) (Shows (begins m on off) at to)
      (elim (stands s at m) as (λ (b : Bool). Outcome A) [ true ↦ run on s (at + length m) | false ↦ run off s at ])
      (λ a next p k e h. (ap (λ (l : List ℕ). same l m) (w.0 to (omega arith)), p k e h))
      (go (stands s at m) w.1 (look_same E on v.0 (at + length m) (to + length m) (λ x. ap (λ (n : ℕ). n + length m) (c x))) (look_same E off v.1 at to c))
    where
      Left : Bool → Type 0
      Left b = elim b as (λ (d : Bool). Type 0) [ true ↦ Same on s (at + length m) t (to + length m) | false ↦ Same off s at t to ]

      go : (b : Bool) → Agree (elim b as (λ (d : Bool). List (ℕ × ℕ)) [ true ↦ looks on s (at + length m) | false ↦ looks off s at ]) s at t to
          → (Agree (looks on s (at + length m)) s (at + length m) t (to + length m) → Finds (run on s (at + length m)) (Shows on (at + length m) (to + length m)))
          → (Agree (looks off s at) s at t to → Finds (run off s at) (Shows off at to))
          → Finds (elim b as (λ (d : Bool). Outcome A) [ true ↦ run on s (at + length m) | false ↦ run off s at ]) (λ (a : A) (next : ℕ). (k : ℕ) → next ≡ at + k → to + k ≤ length t → Left b)
      go true x f g =
          both (λ a next. at + length m ≤ next) (Shows on (at + length m) (to + length m)) (λ a next. (k : ℕ) → next ≡ at + k → to + k ≤ length t → Left true) (run on s (at + length m))
          (λ a next p q k e h. q (k - length m) (omega arith) (omega arith))
          (grows on s (at + length m)) (f (agree_shifted (looks on s (at + length m)) s at t to (at + length m) (to + length m) (omega arith) x))
      go false x f g = g x

-- What a tree found in s it finds in any t that agrees where it looked and is long enough, whatever else t holds; at another place too, if it does not ask where it is.
pub unaltered : {A : Type 0} (E : Type 0) (r : Reader A) → Anchored E r → (s t : List ℕ) (at to : ℕ) → (E → to ≡ at) → (a : A) (k : ℕ) → run r s at ≡ read a (at + k)
    → Agree (looks r s at) s at t to → to + k ≤ length t → run r t to ≡ read a (to + k)
unaltered {A} E r v s t at to c a k e w h =
    let f : Shows s t r at to a (at + k) = subst (λ (o : Outcome A). Finds o (Shows s t r at to)) e (look_same s t E r v at to c w) in
    let g : Again r at t to a (at + k) = subst (λ (o : Outcome A). Finds o (Again r at t to)) e (again r s at t to (f k refl h)) in
    g.1 ∙ ap (read a) (omega (arith, g.2))
