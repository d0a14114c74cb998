-- Parts of a run of bytes: those that are there have their length, and a part of a part is a part.
use Prim.Native.Nat.{ℕ, zero, suc, ◌+◌, ◌-◌, ◌≤◌, ◌<◌}
use mathlib.Core.Bool.{Bool, true, false}
use mathlib.Core.List.{List, [], ◌∷◌, ◌++◌}
use mathlib.Core.Path.{◌≡◌, refl, sym, ◌∙◌, ap}
use native.Mathlib.Omega.{arith}
use borrow.Author.Tests.{leb-true, leb-false}
use lib.ListN.{length, take, drop, length-take, length-drop}
use lib.Seq.{take-take, take-add, drop-drop, length-take-le}
use Rattle.octets.specs.declared.Fault.{Fault}
use Rattle.octets.specs.declared.Fault.TheVariants.{Cut}
use Rattle.octets.specs.Looks.{part}
use Rattle.octets.specs.Reader.{Outcome, run, room}
use Rattle.octets.specs.Reader.Reader.{done, skip}
use Rattle.octets.specs.Reader.Outcome.{read, fault}

-- bytes that were skipped were there
pub skip-room : (n : ℕ) (s : List ℕ) (at next : ℕ) → ◌≡◌ {A = Outcome (Unit {0})} (read tt next) (run (skip n (done tt)) s at) → (next ≡ at + n) × (at + n ≤ length s)
unfolding run
skip-room n s at next h = go (room s at n) refl h
  where
    go : (t : Bool) → room s at n ≡ t → ◌≡◌ {A = Outcome (Unit {0})} (read tt next) (elim t as (λ (c : Bool). Outcome (Unit {0})) [ true ↦ read tt (at + n) | false ↦ fault (Cut at) ])
        → (next ≡ at + n) × (at + n ≤ length s)
    go true e g = (cc, leb-true _ _ e)
    go false e g =
        let z : ◌≡◌ {A = ℕ} 0 1 = cc in
        absurd (omega arith)

-- and bytes that could not be skipped were not
pub skip-short : (n : ℕ) (s : List ℕ) (at : ℕ) (x : Fault) → ◌≡◌ {A = Outcome (Unit {0})} (fault x) (run (skip n (done tt)) s at) → (Cut at ≡ x) × (length s < at + n)
unfolding run
skip-short n s at x h = go (room s at n) refl h
  where
    go : (t : Bool) → room s at n ≡ t → ◌≡◌ {A = Outcome (Unit {0})} (fault x) (elim t as (λ (c : Bool). Outcome (Unit {0})) [ true ↦ read tt (at + n) | false ↦ fault (Cut at) ])
        → (Cut at ≡ x) × (length s < at + n)
    go true e g =
        let z : ◌≡◌ {A = ℕ} 0 1 = cc in
        absurd (omega arith)
    go false e g = (cc, leb-false _ _ e)

-- a slice, which has a start and an end
module _ (s : List ℕ) (at n : ℕ) where
  less : at + n - at ≡ n
  less = omega arith

  pub slice-same : take (at + n - at) (drop at s) ≡ take n (drop at s)
  slice-same = ap (λ (k : ℕ). take k (drop at s)) less

  pub slice-long : at + n ≤ length s → length (take (at + n - at) (drop at s)) ≡ n
  slice-long h = ap length slice-same ∙ length-take n (drop at s) ∙ omega (arith, length-drop at s)

-- a part that is in the file has its length
pub part-long : (s : List ℕ) (at n : ℕ) → at + n ≤ length s → length (part s at n) ≡ n
part-long s at n h = length-take-le n (drop at s) (omega (arith, length-drop at s))

-- a part of a part
pub inner : (k w n : ℕ) (l : List ℕ) → k + w ≤ n → take w (drop k (take n l)) ≡ take w (drop k l)
inner zero w n l h = take-take w n l (omega arith)
inner (suc k) w zero l h = absurd (omega arith)
inner (suc k) w (suc n) [] h = refl
inner (suc k) w (suc n) (x ∷ xs) h = inner k w n xs (omega arith)

pub part-part : (s : List ℕ) (at n k w : ℕ) → k + w ≤ n → part (part s at n) k w ≡ part s (at + k) w
part-part s at n k w h = inner k w n (drop at s) h ∙ ap (take w) (drop-drop k at s)

-- one part after another is the part of both
pub part_join : (s : List ℕ) (at n m : ℕ) → part s at n ++ part s (at + n) m ≡ part s at (n + m)
part_join s at n m = ap (λ (l : List ℕ). part s at n ++ take m l) (sym (drop-drop n at s)) ∙ sym (take-add n m (drop at s))
