-- A read that goes on: the bytes that it took, and where the next read is. A mark is as far on as it is long.
use Prim.Native.Nat.{ℕ, ◌+◌, ◌≤◌, ◌<◌}
use mathlib.Core.Bool.{Bool, true, false}
use mathlib.Core.List.{List, []}
use mathlib.Core.Path.{◌≡◌, refl, sym, ◌∙◌, ap}
use native.Mathlib.Omega.{arith}
use borrow.Author.Tests.{leb-true, le-leb, lt-leb}
use lib.ListN.{length, take, drop}
use Rattle.octets.specs.declared.Endianness.{Endianness}
use Rattle.octets.specs.declared.Fault.{Fault}
use Rattle.octets.specs.declared.Fault.TheVariants.{Cut}
use Rattle.octets.specs.Helpers.{number_at}
use Rattle.octets.specs.Looks.{part}
use Rattle.octets.specs.Number.{spelled, number, tag}
use Rattle.octets.specs.Reader.{Reader, Outcome, run, same, room}
use Rattle.octets.specs.Reader.Reader.{done, stray, bytes, skip}
use Rattle.octets.specs.Reader.Outcome.{read, fault}
use Rattle.octets.proofs.Marks.{same-eq}
use Rattle.octets.proofs.Parts.{skip-room, skip-short}
use Rattle.octets.proofs.Same.{Finds}
use Rattle.octets.proofs.Tests.{held, failed}
use Rattle.octets.proofs.Unaltered.{grows}

pub bytes_go : {A : Type 0} (n : ℕ) (k : List ℕ → Reader A) (s : List ℕ) (at : ℕ) (a : A) (next : ℕ) → run (bytes n k) s at ≡ read a next → (b : List ℕ) × (run (k b) s (at + n) ≡ read a next)
unfolding run
bytes_go {A} n k s at a next h = go (room s at n) h
  where
    go : (t : Bool) → (elim t as (λ (c : Bool). Outcome A) [ true ↦ run (k (take n (drop at s))) s (at + n) | false ↦ fault (Cut at) ]) ≡ read a next
        → (b : List ℕ) × (run (k b) s (at + n) ≡ read a next)
    go true g = (take n (drop at s), g)
    go false g = ([], cc)

pub tag_goes : {A : Type 0} (m : List ℕ) (r : Reader A) (s : List ℕ) (at : ℕ) (a : A) (next : ℕ) → run (tag m r) s at ≡ read a next → run r s (at + length m) ≡ read a next
unfolding run
tag_goes {A} m r s at a next h = go (same b m) w.1
  where
    w : (b : List ℕ) × (run (elim (same b m) as (λ (c : Bool). Reader A) [ true ↦ r | false ↦ stray (length m) ]) s (at + length m) ≡ read a next)
    w = bytes_go (length m) (λ b. elim (same b m) as (λ (c : Bool). Reader A) [ true ↦ r | false ↦ stray (length m) ]) s at a next h

    b : List ℕ
    b = w.0

    go : (t : Bool) → run (elim t as (λ (c : Bool). Reader A) [ true ↦ r | false ↦ stray (length m) ]) s (at + length m) ≡ read a next → run r s (at + length m) ≡ read a next
    go true g = g
    go false g = cc

-- what goes by bytes that were read goes by those that stand there, and a mark that was read stands there
pub bytes_read : {A : Type 0} (n : ℕ) (k : List ℕ → Reader A) (s : List ℕ) (at : ℕ) (a : A) (next : ℕ) → run (bytes n k) s at ≡ read a next → run (k (part s at n)) s (at + n) ≡ read a next
unfolding run
bytes_read {A} n k s at a next h = go (room s at n) h
  where
    go : (t : Bool) → (elim t as (λ (c : Bool). Outcome A) [ true ↦ run (k (part s at n)) s (at + n) | false ↦ fault (Cut at) ]) ≡ read a next → run (k (part s at n)) s (at + n) ≡ read a next
    go true g = g
    go false g = cc

pub tag_read : {A : Type 0} (m : List ℕ) (r : Reader A) (s : List ℕ) (at : ℕ) (a : A) (next : ℕ) → run (tag m r) s at ≡ read a next → part s at (length m) ≡ m
unfolding run
tag_read {A} m r s at a next h = go (same (part s at (length m)) m) refl (bytes_read (length m) (λ b. elim (same b m) as (λ (c : Bool). Reader A) [ true ↦ r | false ↦ stray (length m) ]) s at a next h)
  where
    go : (t : Bool) → same (part s at (length m)) m ≡ t → run (elim t as (λ (c : Bool). Reader A) [ true ↦ r | false ↦ stray (length m) ]) s (at + length m) ≡ read a next → part s at (length m) ≡ m
    go true e g = same-eq _ _ e
    go false e g =
        let z : ◌≡◌ {A = ℕ} 0 1 = cc in
        absurd (omega arith)

-- a number that was read is the one that its bytes spell
pub number_read : {A : Type 0} (e : Endianness) (w : ℕ) (k : ℕ → Reader A) (s : List ℕ) (at : ℕ) (a : A) (next : ℕ) → run (number e w k) s at ≡ read a next
    → run (k (spelled e (part s at w))) s (at + w) ≡ read a next
unfolding run
number_read {A} e w k s at a next g = go (room s at w) refl g
  where
    go : (c : Bool) → room s at w ≡ c → (elim c as (λ (d : Bool). Outcome A) [ true ↦ run (k (spelled e (part s at w))) s (at + w) | false ↦ fault (Cut at) ]) ≡ read a next
        → run (k (spelled e (part s at w))) s (at + w) ≡ read a next
    go true t f = f
    go false t f = cc

-- a read of n bytes moves by n at least
pub bytes_move : {A : Type 0} (n : ℕ) (k : List ℕ → Reader A) (s : List ℕ) (at : ℕ) → Finds (run (bytes n k) s at) (λ (a : A) (next : ℕ). at + n ≤ next)
unfolding run
bytes_move {A} n k s at = go (room s at n)
  where
    go : (c : Bool) → Finds {A = A} (elim c as (λ (d : Bool). Outcome A) [ true ↦ run (k (take n (drop at s))) s (at + n) | false ↦ fault (Cut at) ]) (λ (a : A) (next : ℕ). at + n ≤ next)
    go true = grows (k (take n (drop at s))) s (at + n)
    go false = tt

-- a number whose bytes are passed over, or are not there
module _ {A : Type 0} (e : Endianness) (w : ℕ) (k : ℕ → Reader A) (s : List ℕ) (at : ℕ) where
  pub number_cut : length s < at + w → run (number e w k) s at ≡ fault (Cut at)
  unfolding run
  number_cut h = failed _ _ (lt-leb _ _ h)

  pub number_in : at + w ≤ length s → run (number e w k) s at ≡ run (k (number_at e w s at)) s (at + w)
  unfolding run
  number_in h = held _ _ (le-leb _ _ h)

  pub number_passed : (next : ℕ) → ◌≡◌ {A = Outcome (Unit {0})} (read tt next) (run (skip w (done tt)) s at) → run (number e w k) s at ≡ run (k (number_at e w s at)) s next
  number_passed next h =
      let q = skip-room w s at next h in
      number_in q.1 ∙ ap (λ (n : ℕ). run (k (number_at e w s at)) s n) (sym q.0)

  pub number-missing : (x : Fault) → ◌≡◌ {A = Outcome (Unit {0})} (fault x) (run (skip w (done tt)) s at) → run (number e w k) s at ≡ fault x
  number-missing x h =
      let q = skip-short w s at x h in
      let stop : Fault → Outcome A = fault in
      number_cut q.1 ∙ ap stop q.0

-- a number that was read is among the bytes
pub number-within : (e : Endianness) (s : List ℕ) (w at n next : ℕ) → run (number e w done) s at ≡ read n next → next ≤ length s
unfolding run
number-within e s w at n next h = go (room s at w) refl
  where
    go : (b : Bool) → room s at w ≡ b → next ≤ length s
    go true t =
        let q : ◌≡◌ {A = Outcome ℕ} (read (number_at e w s at) (at + w)) (read n next) = sym (held _ _ t) ∙ h in
        let z : at + w ≡ next = cc in
        let k : at + w ≤ length s = leb-true _ _ t in
        omega arith
    go false t =
        let q : ◌≡◌ {A = Outcome ℕ} (fault (Cut at)) (read n next) = sym (failed _ _ t) ∙ h in
        let z : ◌≡◌ {A = ℕ} 0 1 = cc in
        absurd (omega arith)
