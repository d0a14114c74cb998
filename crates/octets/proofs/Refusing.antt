-- Which refusals a tree gives: where every `refuse` in it has some property, so has every refusal that it finds.
use Prim.Native.Nat.{ℕ, zero, suc, ◌+◌, ◌-◌}
use mathlib.Core.Bool.{Bool, true, false}
use mathlib.Core.List.{List}
use mathlib.Core.Path.{◌≡◌, subst}
use native.Mathlib.Omega.{arith}
use lib.ListN.{length, take, drop}
use Rattle.octets.specs.declared.Refusal.{Refusal}
use Rattle.octets.specs.declared.Fault.{Fault}
use Rattle.octets.specs.declared.Fault.TheVariants.{Cut, Mark}
use Rattle.octets.specs.Number.{tag}
use Rattle.octets.specs.Reader.{Reader, Outcome, run, then, times, same, room, ended_by, stands, before}
use Rattle.octets.specs.Reader.Reader.{done, refuse, stray, here, bytes, skip, until, begins}
use Rattle.octets.specs.Reader.Outcome.{read, fault}

module _ (P : Refusal → Type 0) where
  abbrev pub Gives : {A : Type 0} → Reader A → Type 0
  Gives (done a) = Unit {0}
  Gives (refuse n) = P n
  Gives (stray n) = Unit {0}
  Gives (here k) = (at : ℕ) → Gives (k at)
  Gives (bytes n k) = (b : List ℕ) → Gives (k b)
  Gives (skip n r) = Gives r
  Gives (until end k) = (n : ℕ) → Gives (k n)
  Gives (begins m on off) = Gives on × Gives off

  abbrev Given : {A : Type 0} → Outcome A → Type 0
  Given o = (r : Refusal) → o ≡ fault (Fault.Refusal r) → P r

  cut : {A : Type 0} (at : ℕ) → Given {A = A} (fault (Cut at))
  cut at n e =
      let z : ◌≡◌ {A = ℕ} 0 1 = cc in
      absurd (omega arith)

  wrong : {A : Type 0} (at : ℕ) → Given {A = A} (fault (Mark at))
  wrong at n e =
      let z : ◌≡◌ {A = ℕ} 0 1 = cc in
      absurd (omega arith)

  found : {A : Type 0} (a : A) (at : ℕ) → Given (read a at)
  found a at n e =
      let z : ◌≡◌ {A = ℕ} 0 1 = cc in
      absurd (omega arith)

  this : {A : Type 0} (q : Refusal) → P q → Given {A = A} (fault (Fault.Refusal q))
  this q w r e =
      let k : q ≡ r = cc in
      subst P k w

  pub given : {A : Type 0} (r : Reader A) → Gives r → (s : List ℕ) (at : ℕ) → Given (run r s at)
  unfolding run
  given (done a) w s at = found a at
  given (refuse m) w s at = this m w
  given (stray m) w s at = wrong (at - m)
  given (here k) w s at = given (k at) (w at) s at
  given {A} (bytes m k) w s at = go (room s at m) (given (k (take m (drop at s))) (w (take m (drop at s))) s (at + m))
    where
      go : (c : Bool) → Given (run (k (take m (drop at s))) s (at + m)) → Given {A = A} (elim c as (λ (d : Bool). Outcome A) [ true ↦ run (k (take m (drop at s))) s (at + m) | false ↦ fault (Cut at) ])
      go true f = f
      go false f = cut at
  given {A} (skip m r) w s at = go (room s at m) (given r w s (at + m))
    where
      go : (c : Bool) → Given (run r s (at + m)) → Given {A = A} (elim c as (λ (d : Bool). Outcome A) [ true ↦ run r s (at + m) | false ↦ fault (Cut at) ])
      go true f = f
      go false f = cut at
  given {A} (until end k) w s at = go (ended_by end s at) (given (k (before end (drop at s))) (w (before end (drop at s))) s (at + (before end (drop at s) + 1)))
    where
      go : (c : Bool) → Given (run (k (before end (drop at s))) s (at + (before end (drop at s) + 1)))
          → Given {A = A} (elim c as (λ (d : Bool). Outcome A) [ true ↦ run (k (before end (drop at s))) s (at + (before end (drop at s) + 1)) | false ↦ fault (Cut at) ])
      go true f = f
      go false f = cut at
  given {A} (begins m on off) w s at = go (stands s at m) (given on w.0 s (at + length m)) (given off w.1 s at)
    where
      go : (c : Bool) → Given (run on s (at + length m)) → Given (run off s at)
          → Given {A = A} (elim c as (λ (d : Bool). Outcome A) [ true ↦ run on s (at + length m) | false ↦ run off s at ])
      go true f g = f
      go false f g = g

  -- of a tree and another that follows it, of a tree again and again, and of a mark
  pub gives_then : {A B : Type 0} (r : Reader A) (f : A → Reader B) → Gives r → ((a : A) → Gives (f a)) → Gives (then r f)
  unfolding then
  gives_then (done a) f w g = g a
  gives_then (refuse n) f w g = w
  gives_then (stray n) f w g = tt
  gives_then (here k) f w g = λ at. gives_then (k at) f (w at) g
  gives_then (bytes n k) f w g = λ b. gives_then (k b) f (w b) g
  gives_then (skip n r) f w g = gives_then r f w g
  gives_then (until end k) f w g = λ n. gives_then (k n) f (w n) g
  gives_then (begins m on off) f w g = (gives_then on f w.0 g, gives_then off f w.1 g)

  pub gives-times : {A : Type 0} (n : ℕ) (r : Reader A) → Gives r → Gives (times n r)
  unfolding times
  gives-times zero r w = tt
  gives-times (suc n) r w = gives_then r _ w (λ a. gives_then (times n r) _ (gives-times n r w) (λ rest. tt))

  pub gives-tag : {A : Type 0} (m : List ℕ) (r : Reader A) → Gives r → Gives (tag m r)
  gives-tag {A} m r w = λ b. go (same b m)
    where
      go : (c : Bool) → Gives {A = A} (elim c as (λ (d : Bool). Reader A) [ true ↦ r | false ↦ stray (length m) ])
      go true = w
      go false = tt
