-- The law of sequence, and what one read does, from plain facts of numbers: what the proofs of code cite.
use Prim.Native.Nat.{ℕ, ◌+◌, ◌-◌, ◌≤◌, ◌<◌}
use mathlib.Core.Bool.{Bool, true, false}
use mathlib.Core.List.{List, []}
use mathlib.Core.Path.{◌≡◌, refl, sym, ◌∙◌}
use native.Mathlib.Omega.{arith}
use borrow.Author.Tests.{le-leb, lt-leb, lt-ltb, le-ltb, leb-true, leb-false}
use lib.ListN.{length, take, drop, length-drop}
use lib.Seq.{take_all}
use Rattle.octets.specs.declared.Endianness.{Endianness}
use Rattle.octets.specs.declared.Fault.TheVariants.{Cut, Mark}
use Rattle.octets.specs.Cursor.{part_of}
use Rattle.octets.specs.Helpers.{number_at}
use Rattle.octets.specs.Number.{spelled, number, tag}
use Rattle.octets.specs.Reader.{Reader, Outcome, run, then, room, ended_by, stands, before}
use Rattle.octets.specs.Reader.Reader.{done, refuse, stray, here, bytes, skip, until, begins}
use Rattle.octets.specs.Reader.Outcome.{read, fault}
use Rattle.octets.proofs.Tests.{held, failed}

-- what the second finds from where the first ended
abbrev pub onwards : {A B : Type 0} → Outcome A → (A → ℕ → Outcome B) → Outcome B
onwards (read a next) f = f a next
onwards (fault x) f = fault x

by-test : {A B : Type 0} (b : Bool) (f : A → ℕ → Outcome B) (o p : Outcome A) (o' p' : Outcome B) → o' ≡ onwards o f → p' ≡ onwards p f
    → (elim b as (λ (c : Bool). Outcome B) [ true ↦ o' | false ↦ p' ]) ≡ onwards (elim b as (λ (c : Bool). Outcome A) [ true ↦ o | false ↦ p ]) f
by-test true f o p o' p' h k = h
by-test false f o p o' p' h k = k

pub run-then : {A B : Type 0} (r : Reader A) (f : A → Reader B) (s : List ℕ) (at : ℕ) → run (then r f) s at ≡ onwards (run r s at) (λ a next. run (f a) s next)
unfolding run then
run-then (done a) f s at = refl
run-then (refuse n) f s at = refl
run-then (stray n) f s at = refl
run-then (here k) f s at = run-then (k at) f s at
run-then (bytes n k) f s at = by-test (room s at n) _ _ _ _ _ (run-then (k (take n (drop at s))) f s (at + n)) refl
run-then (skip n r) f s at = by-test (room s at n) _ _ _ _ _ (run-then r f s (at + n)) refl
run-then (until end k) f s at = by-test (ended_by end s at) _ _ _ _ _ (run-then (k (before end (drop at s))) f s (at + (before end (drop at s) + 1))) refl
run-then (begins m on off) f s at = by-test (stands s at m) _ _ _ _ _ (run-then on f s (at + length m)) (run-then off f s at)

-- the same as facts of numbers, for a Bool that says it
module _ {r : Bool} (s : List ℕ) (at n : ℕ) (e : r ≡ room s at n) where
  pub roomy : r ≡ true → at + n ≤ length s
  roomy t = leb-true _ _ (sym e ∙ t)

  pub tight : r ≡ false → length s < at + n
  tight t = leb-false _ _ (sym e ∙ t)

-- What one read does, from plain facts of numbers: what the proofs of code cite.
pub bytes-out : {A : Type 0} (n : ℕ) (k : List ℕ → Reader A) (s : List ℕ) (at : ℕ) → length s < at + n → run (bytes n k) s at ≡ fault (Cut at)
unfolding run
bytes-out n k s at h = failed _ _ (lt-leb _ _ h)

pub skip-out : {A : Type 0} (n : ℕ) (r : Reader A) (s : List ℕ) (at : ℕ) → length s < at + n → run (skip n r) s at ≡ fault (Cut at)
unfolding run
skip-out n r s at h = failed _ _ (lt-leb _ _ h)

pub until-out : {A : Type 0} (end : ℕ) (k : ℕ → Reader A) (s : List ℕ) (at : ℕ) → length s ≤ at + before end (drop at s) → run (until end k) s at ≡ fault (Cut at)
unfolding run
until-out end k s at h = failed _ _ (le-ltb _ _ h)

pub begins_in : {A : Type 0} (m : List ℕ) (on off : Reader A) (s : List ℕ) (at : ℕ) → stands s at m ≡ true → run (begins m on off) s at ≡ run on s (at + length m)
unfolding run
begins_in m on off s at h = held _ _ h

pub begins-out : {A : Type 0} (m : List ℕ) (on off : Reader A) (s : List ℕ) (at : ℕ) → stands s at m ≡ false → run (begins m on off) s at ≡ run off s at
unfolding run
begins-out m on off s at h = failed _ _ h

-- One read and nothing after it: what a method of the cursor answers.
pub skipped : (n : ℕ) (s : List ℕ) (at : ℕ) → at + n ≤ length s → ◌≡◌ {A = Outcome (Unit {0})} (read tt (at + n)) (run (skip n (done tt)) s at)
unfolding run
skipped n s at h = sym (held _ _ (le-leb _ _ h))

pub tagged : (m s : List ℕ) (at : ℕ) → at + length m ≤ length s → stands s at m ≡ true → ◌≡◌ {A = Outcome (Unit {0})} (read tt (at + length m)) (run (tag m (done tt)) s at)
unfolding run
tagged m s at h t = sym (held _ _ (le-leb _ _ h) ∙ rw t)

pub strayed : (m s : List ℕ) (at : ℕ) → at + length m ≤ length s → stands s at m ≡ false → ◌≡◌ {A = Outcome (Unit {0})} (fault (Mark at)) (run (tag m (done tt)) s at)
unfolding run
strayed m s at h t =
    let k : at + length m - length m ≡ at = omega arith in
    sym (held _ _ (le-leb _ _ h) ∙ rw (t, k))

pub begun_in : (m s : List ℕ) (at : ℕ) → stands s at m ≡ true → read true (at + length m) ≡ run (begins m (done true) (done false)) s at
unfolding run
begun_in m s at t = sym (held _ _ t)

pub begun-out : (m s : List ℕ) (at : ℕ) → stands s at m ≡ false → read false at ≡ run (begins m (done true) (done false)) s at
unfolding run
begun-out m s at t = sym (failed _ _ t)

-- a part that runs to the end
pub to_the_end : (s : List ℕ) (at : ℕ) → take (length s - at) (drop at s) ≡ drop at s
to_the_end s at = take_all (length s - at) (drop at s) (omega (arith, length-drop at s))

-- a run that ends at the first c, or has none
module _ (c : ℕ) (s : List ℕ) (at end : ℕ) (e : end ≡ at + before c (drop at s)) where
  pub counted_in : end < length s → read (end - at) (end + 1) ≡ run (until c done) s at
  unfolding run
  counted_in h =
      let n : end - at ≡ before c (drop at s) = omega arith in
      let k : end + 1 ≡ at + (before c (drop at s) + 1) = omega arith in
      rw (n, k) (sym (held _ _ (lt-ltb _ _ (rw e at h))))

  pub counted-out : length s ≤ end → ◌≡◌ {A = Outcome ℕ} (fault (Cut at)) (run (until c done) s at)
  counted-out h = sym (until-out _ _ _ _ (rw e at h))

pub counted-past : (c : ℕ) (s : List ℕ) (at : ℕ) → length s ≤ at → ◌≡◌ {A = Outcome ℕ} (fault (Cut at)) (run (until c done) s at)
counted-past c s at h = sym (until-out _ _ _ _ (omega arith))

module _ (s : List ℕ) (at n : ℕ) where
  pub part_in : at + n ≤ length s → take (at + n - at) (drop at s) ≡ part_of s at n
  unfolding part_of
  part_in h =
      let k : at + n - at ≡ n = omega arith in
      rw k (sym (held _ _ (le-leb _ _ h)))

  pub part_out : length s < at + n → [] ≡ part_of s at n
  unfolding part_of
  part_out h = sym (failed _ _ (lt-leb _ _ h))

module _ (e : Endianness) (s : List ℕ) (at n w : ℕ) (same : n ≡ w) where
  pub numbered_in : at + n ≤ length s → (r : ℕ) → r ≡ spelled e (take (at + n - at) (drop at s)) → read r (at + n) ≡ run (number e w done) s at
  unfolding run
  numbered_in h r t =
      let k : at + n - at ≡ n = omega arith in
      rw (t, k, same) (sym (held _ _ (le-leb _ _ (rw same at h))))

  pub numbered-out : length s < at + n → fault (Cut at) ≡ run (number e w done) s at
  numbered-out h = sym (bytes-out _ _ _ _ (rw same at h))

-- a number that stands at a place
pub number-there : (e : Endianness) (w : ℕ) (s : List ℕ) (at next : ℕ) → next ≡ at + w → next ≤ length s → read (number_at e w s at) next ≡ run (number e w done) s at
unfolding run
number-there e w s at next q h = rw q (sym (held _ _ (le-leb _ _ (rw q at h))))
