-- Laws of the first row at which a test holds, and of the numbers that a rule gives to places.
use Prim.Native.Nat.{ℕ, zero, suc, ◌+◌, ◌-◌, ◌≤◌, ◌<◌}
use mathlib.Core.Bool.{Bool, true, false}
use mathlib.Core.List.{List, ◌∷◌}
use mathlib.Core.Path.{◌≡◌, refl, sym, ◌∙◌, ap}
use native.Mathlib.Omega.{arith}
use borrow.Author.Tests.{ltb-true, ltb-false}
use lib.Dec.{ltb}
use lib.ListN.{length, get_or, drop, length-append, length-drop, get_or-append}
use lib.Seq.{get_or-append-add, get_or-drop, ext_get_or}
use Rattle.octets.specs.Tables.{over}
use Rattle.octets.proofs.Tests.{held, failed}
use Rattle.index.specs.Index.{first_at, numbers_from}

pub first-none : (p : ℕ → Bool) (row : ℕ) → first_at p 0 row ≡ 0
unfolding first_at
first-none p row = refl

module _ (p : ℕ → Bool) (n row : ℕ) where
  pub first-here : p row ≡ true → first_at p (suc n) row ≡ row + 1
  unfolding first_at
  first-here e = held _ _ e

  pub first_on : p row ≡ false → first_at p (suc n) row ≡ first_at p n (row + 1)
  unfolding first_at
  first_on e = failed _ _ e

-- two tests that agree on the rows that are asked
pub first-same : (p q : ℕ → Bool) (n row : ℕ) → ((i : ℕ) → row ≤ i → i < row + n → p i ≡ q i) → first_at p n row ≡ first_at q n row
unfolding first_at
first-same p q zero row f = refl
first-same p q (suc n) row f =
    let on = first-same p q n (row + 1) (λ i g k. f i (omega arith) (omega arith)) in
    ap (λ (b : Bool). elim b as (λ (c : Bool). ℕ) [ true ↦ row + 1 | false ↦ first_at p n (row + 1) ]) (f row (omega arith) (omega arith))
    ∙ ap (λ (m : ℕ). elim (q row) as (λ (c : Bool). ℕ) [ true ↦ row + 1 | false ↦ m ]) on

-- the numbers of a rule
pub numbers-many : (f : ℕ → ℕ) (n at : ℕ) → length (numbers_from f n at) ≡ n
unfolding numbers_from
numbers-many f zero at = refl
numbers-many f (suc n) at = ap suc (numbers-many f n (at + 1))

pub number_at : (f : ℕ → ℕ) (n at i : ℕ) → i < n → get_or (numbers_from f n at) i 0 ≡ f (at + i)
unfolding numbers_from
number_at f zero at i h = absurd (omega arith)
number_at f (suc n) at zero h =
    let e : at ≡ at + 0 = omega arith in
    ap f e
number_at f (suc n) at (suc i) h =
    let e : at + 1 + i ≡ at + suc i = omega arith in
    number_at f n (at + 1) i (omega arith) ∙ ap f e

pub numbers-same : (f g : ℕ → ℕ) (n at : ℕ) → ((i : ℕ) → at ≤ i → i < at + n → f i ≡ g i) → numbers_from f n at ≡ numbers_from g n at
unfolding numbers_from
numbers-same f g zero at h = refl
numbers-same f g (suc n) at h =
    ap (λ (m : ℕ). m ∷ numbers_from f n (at + 1)) (h at (omega arith) (omega arith)) ∙ ap (λ (l : List ℕ). g at ∷ l) (numbers-same f g n (at + 1) (λ i e k. h i (omega arith) (omega arith)))

-- a table that holds a rule's numbers in front, and after them what it held
module _ (f : ℕ → ℕ) (n : ℕ) (t t' : List ℕ) (l : length t' ≡ length t) (h : n ≤ length t) (front : (i : ℕ) → i < n → get_or t' i 0 ≡ f i)
    (rest : (i : ℕ) → n ≤ i → get_or t' i 0 ≡ get_or t i 0) where
  abbrev new : List ℕ
  new = numbers_from f n 0

  number-over : (i : ℕ) → get_or t' i 0 ≡ get_or (over new t) i 0
  number-over i = go (ltb i n) refl
    where
      many : length new ≡ n
      many = numbers-many f n 0

      go : (b : Bool) → ltb i n ≡ b → get_or t' i 0 ≡ get_or (over new t) i 0
      go true e =
          let k = ltb-true i n e in
          let j : 0 + i ≡ i = omega arith in
          front i k ∙ sym (get_or-append new (drop (length new) t) 0 i (rw many k) ∙ number_at f n 0 i k ∙ ap f j)
      go false e =
          let k = ltb-false i n e in
          let j : i ≡ length new + (i - length new) = omega (arith, many) in
          rest i k
          ∙ ap (λ (m : ℕ). get_or t m 0) j ∙ sym (get_or-drop (length new) t (i - length new) 0)
          ∙ sym (get_or-append-add new (drop (length new) t) (i - length new) 0) ∙ ap (λ (m : ℕ). get_or (over new t) m 0) (sym j)

  pub numbers-over : t' ≡ over new t
  numbers-over =
      ext_get_or 0 t' (over new t) (l ∙ sym (length-append new (drop (length new) t) ∙ omega (arith, numbers-many f n 0, length-drop (length new) t))) (λ i k. number-over i)
