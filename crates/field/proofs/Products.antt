-- Products that 64 bits hold or not: what a number held tells, and all factors one after another.
use Prim.Native.Nat.{ℕ, ◌*◌, ◌≤◌, ◌<◌}
use mathlib.Core.Bool.{Bool, true, false}
use mathlib.Core.List.{List, [], ◌∷◌}
use mathlib.Core.Path.{◌≡◌, refl, sym, ◌∙◌, ap}
use native.Mathlib.Nat.{mul-zero, mul-one, mul_assoc, mul-le-mul_left}
use native.Mathlib.Omega.{arith}
use borrow.Author.Tests.{le-leb, lt-leb, ne_eqb, leb-true, leb-false, eqb-true, eqb-false}
use lib.Dec.{leb, eqb}
use Rattle.std.specs.Prelude.{Option, Some, None}
use Rattle.octets.proofs.Tests.{held, failed}
use Rattle.field.specs.Declarators.{most, product}
use Rattle.field.specs.Helpers.{capped, times_of, all_times}

module _ (n : ℕ) where
  capped_in : n ≤ most → Some n ≡ capped n
  capped_in h = sym (held _ _ (le-leb n most h))

  capped-over : most < n → None ≡ capped n
  capped-over h = sym (failed _ _ (lt-leb n most h))

  pub capped_some : (m : ℕ) → capped n ≡ Some m → (m ≡ n) × (n ≤ most)
  capped_some m h = go (leb n most) refl
    where
      go : (b : Bool) → leb n most ≡ b → (m ≡ n) × (n ≤ most)
      go true t =
          let e = capped_in (leb-true n most t) ∙ h in
          (cc, leb-true n most t)
      go false t =
          let e = capped-over (leb-false n most t) ∙ h in
          (cc, cc)

  pub capped_none : capped n ≡ None → most < n
  capped_none h = go (leb n most) refl
    where
      go : (b : Bool) → leb n most ≡ b → most < n
      go true t =
          let e = capped_in (leb-true n most t) ∙ h in
          cc
      go false t = leb-false n most t

-- one factor more of a product that is exact
times_zero : (p : Option ℕ) (d : ℕ) → d ≡ 0 → Some 0 ≡ times_of p d
times_zero (Some n) d e = rw (e, mul-zero n)
times_zero None d e = rw e

times_capped : (n d : ℕ) → times_of (capped n) d ≡ capped (n * d)
times_capped n d = go (leb n most) refl
  where
    go : (b : Bool) → leb n most ≡ b → times_of (capped n) d ≡ capped (n * d)
    go true t = ap (λ (p : Option ℕ). times_of p d) (sym (capped_in n (leb-true n most t)))
    go false t = ap (λ (p : Option ℕ). times_of p d) (sym (capped-over n (leb-false n most t))) ∙ by (eqb d 0) refl
      where
        by : (c : Bool) → eqb d 0 ≡ c → times_of None d ≡ capped (n * d)
        by true e = sym (times_zero None d (eqb-true d 0 e)) ∙ times_zero (Some n) d (eqb-true d 0 e)
        by false e =
            let z : d ≡ 0 → ⊥ = eqb-false d 0 e in
            let o : 1 ≤ d = omega arith in
            let l : most < n * d = omega (arith, leb-false n most t, mul-le-mul_left n o, mul-one n) in
            failed _ _ (ne_eqb d 0 z) ∙ capped-over (n * d) l

pub all-capped : (n : ℕ) (ds : List ℕ) → all_times (capped n) ds ≡ capped (n * product ds)
unfolding product
all-capped n [] = rw (mul-one n)
all-capped n (d ∷ ds) = rw (times_capped n d, ← mul_assoc n d (product ds)) (all-capped (n * d) ds)
