-- A tree finds the same in two runs of bytes that show the same wherever it looks.
use Prim.Native.Nat.{ℕ, ◌+◌}
use mathlib.Core.Bool.{Bool, true, false}
use mathlib.Core.List.{List}
use mathlib.Core.Path.{◌≡◌, refl, ◌∙◌}
use native.Mathlib.Omega.{arith}
use lib.ListN.{length, take, drop}
use Rattle.octets.specs.declared.Fault.{Fault}
use Rattle.octets.specs.declared.Fault.TheVariants.{Cut}
use Rattle.octets.specs.Reader.{Reader, Outcome, run, room, ended_by, stands, before}
use Rattle.octets.specs.Reader.Reader.{done, refuse, stray, here, bytes, skip, until, begins}
use Rattle.octets.specs.Reader.Outcome.{read, fault}
use Rattle.octets.proofs.Tests.{held, failed}

-- t, from `to`, shows what s shows from `at`, wherever the tree looks
abbrev pub Same : {A : Type 0} → Reader A → List ℕ → ℕ → List ℕ → ℕ → Type 0
Same (done a) s at t to = Unit {0}
Same (refuse n) s at t to = Unit {0}
Same (stray n) s at t to = Unit {0}
Same (here k) s at t to = (to ≡ at) × Same (k at) s at t to
Same (bytes n k) s at t to = (room t to n ≡ room s at n) × (take n (drop to t) ≡ take n (drop at s)) × Same (k (take n (drop at s))) s (at + n) t (to + n)
Same (skip n r) s at t to = (room t to n ≡ room s at n) × Same r s (at + n) t (to + n)
Same (until end k) s at t to =
    (ended_by end t to ≡ ended_by end s at) × (before end (drop to t) ≡ before end (drop at s))
    × Same (k (before end (drop at s))) s (at + (before end (drop at s) + 1)) t (to + (before end (drop at s) + 1))
Same (begins m on off) s at t to =
    (stands t to m ≡ stands s at m) × (elim (stands s at m) as (λ (b : Bool). Type 0) [ true ↦ Same on s (at + length m) t (to + length m) | false ↦ Same off s at t to ])

-- what is said of a find, and nothing of a fault
abbrev pub Finds : {A : Type 0} → Outcome A → (A → ℕ → Type 0) → Type 0
Finds (read a next) P = P a next
Finds (fault f) P = Unit {0}

-- the tree finds a in t from `to` as well, and goes as far
abbrev pub Again : {A : Type 0} → Reader A → ℕ → List ℕ → ℕ → A → ℕ → Type 0
Again r at t to a next = (next' : ℕ) × (run r t to ≡ read a next') × (next' + at ≡ next + to)

-- a tree that comes to another after n bytes finds again what that one does
after : {A : Type 0} (r r' : Reader A) (at to n : ℕ) (t : List ℕ) → run r t to ≡ run r' t (to + n)
    → (o : Outcome A) → Finds o (Again r' (at + n) t (to + n)) → Finds o (Again r at t to)
after r r' at to n t e (read a next) f = (f.0, e ∙ f.1, omega (arith, f.2))
after r r' at to n t e (fault x) f = tt

at_once : {A : Type 0} (r r' : Reader A) (at to : ℕ) (t : List ℕ) → run r t to ≡ run r' t to
    → (o : Outcome A) → Finds o (Again r' at t to) → Finds o (Again r at t to)
at_once r r' at to t e (read a next) f = (f.0, e ∙ f.1, f.2)
at_once r r' at to t e (fault x) f = tt

-- one read: where its test holds in s it holds in t, and the tree that is left finds again what it found
one : {A : Type 0} (r r' : Reader A) (b : Bool) (at to n : ℕ) (t : List ℕ) (o : Outcome A) (x : Fault)
    → (b ≡ true → run r t to ≡ run r' t (to + n)) → Finds o (Again r' (at + n) t (to + n))
    → Finds (elim b as (λ (c : Bool). Outcome A) [ true ↦ o | false ↦ fault x ]) (Again r at t to)
one r r' true at to n t o x e f = after r r' at to n t (e refl) o f
one r r' false at to n t o x e f = tt

pub again : {A : Type 0} (r : Reader A) (s : List ℕ) (at : ℕ) (t : List ℕ) (to : ℕ) → Same r s at t to → Finds (run r s at) (Again r at t to)
unfolding run
again (done a) s at t to h = (to, refl, omega arith)
again (refuse n) s at t to h = tt
again (stray n) s at t to h = tt
again (here k) s at t to h = at_once (here k) (k at) at to t (rw h.0 refl) (run (k at) s at) (again (k at) s at t to h.1)
again (bytes n k) s at t to h =
    let b = take n (drop at s) in
    one (bytes n k) (k b) (room s at n) at to n t (run (k b) s (at + n)) (Cut at)
    (λ e. held _ _ (h.0 ∙ e) ∙ rw h.1 refl)
    (again (k b) s (at + n) t (to + n) h.2)
again (skip n r) s at t to h =
    one (skip n r) r (room s at n) at to n t (run r s (at + n)) (Cut at) (λ e. held _ _ (h.0 ∙ e)) (again r s (at + n) t (to + n) h.1)
again (until end k) s at t to h =
    let z = before end (drop at s) in
    one (until end k) (k z) (ended_by end s at) at to (z + 1) t (run (k z) s (at + (z + 1))) (Cut at)
    (λ e. held _ _ (h.0 ∙ e) ∙ rw h.1 refl)
    (again (k z) s (at + (z + 1)) t (to + (z + 1)) h.2)
again {A} (begins g on off) s at t to h = either (stands s at g) h.0 h.1 (again on s (at + length g) t (to + length g)) (again off s at t to)
  where
    either : (b : Bool) → stands t to g ≡ b → (elim b as (λ (c : Bool). Type 0) [ true ↦ Same on s (at + length g) t (to + length g) | false ↦ Same off s at t to ])
        → (Same on s (at + length g) t (to + length g) → Finds (run on s (at + length g)) (Again on (at + length g) t (to + length g)))
        → (Same off s at t to → Finds (run off s at) (Again off at t to))
        → Finds (elim b as (λ (c : Bool). Outcome A) [ true ↦ run on s (at + length g) | false ↦ run off s at ]) (Again (begins g on off) at t to)
    either true e w f f' = after (begins g on off) on at to (length g) t (held _ _ e) (run on s (at + length g)) (f w)
    either false e w f f' = at_once (begins g on off) off at to t (failed _ _ e) (run off s at) (f' w)

-- where a tree asks where it is, E holds
abbrev pub Anchored : {A : Type 0} → Type 0 → Reader A → Type 0
Anchored E (done a) = Unit {0}
Anchored E (refuse n) = Unit {0}
Anchored E (stray n) = Unit {0}
Anchored E (here k) = E × ((n : ℕ) → Anchored E (k n))
Anchored E (bytes n k) = (b : List ℕ) → Anchored E (k b)
Anchored E (skip n r) = Anchored E r
Anchored E (until end k) = (n : ℕ) → Anchored E (k n)
Anchored E (begins m on off) = Anchored E on × Anchored E off

-- any tree is there already where the place is the same
pub anchored : {A : Type 0} (r : Reader A) → Anchored (Unit {0}) r
anchored (done a) = tt
anchored (refuse n) = tt
anchored (stray n) = tt
anchored (here k) = (tt, λ n. anchored (k n))
anchored (bytes n k) = λ b. anchored (k b)
anchored (skip n r) = anchored r
anchored (until end k) = λ n. anchored (k n)
anchored (begins m on off) = (anchored on, anchored off)
