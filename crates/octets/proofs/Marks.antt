-- Laws of marks and of zero-ended strings: when two runs of bytes are the same, when one stands at a place, and where a byte stands first.
use Prim.Native.Nat.{ℕ, zero, suc, ◌+◌, ◌-◌, ◌≤◌, ◌<◌}
use mathlib.Core.Bool.{Bool, true, false, ◌&&◌}
use mathlib.Core.List.{List, [], ◌∷◌}
use mathlib.Core.Path.{◌≡◌, refl, sym, ap}
use native.Mathlib.Omega.{arith}
use borrow.Author.Tests.{eqb-true, eq-eqb, ne_eqb}
use lib.Dec.{eqb}
use native.Mathlib.Numerals.{add-one}
use lib.ListN.{length, get_or, take, drop, length-take, length-drop}
use lib.Seq.{drop-cons}
use Rattle.octets.specs.Reader.{same, stands, before, nearer}

pub same-eq : (xs ys : List ℕ) → same xs ys ≡ true → xs ≡ ys
same-eq [] [] h = refl
same-eq [] (y ∷ ys) h = cc
same-eq (x ∷ xs) [] h = cc
same-eq (x ∷ xs) (y ∷ ys) h = go (eqb x y) refl h (same-eq xs ys)
  where
    go : (b : Bool) → eqb x y ≡ b → (b && same xs ys) ≡ true → (same xs ys ≡ true → xs ≡ ys) → (x ∷ xs) ≡ (y ∷ ys)
    go true t h' f = rw (eqb-true x y t, f h')
    go false t h' f = cc

pub same_refl : (xs : List ℕ) → same xs xs ≡ true
same_refl [] = refl
same_refl (x ∷ xs) = rw (eq-eqb x x refl, same_refl xs)

-- a Bool that says whether two runs are equal is `same` of them
pub decided : (r : Bool) (xs ys : List ℕ) → (r ≡ true → xs ≡ ys) → (xs ≡ ys → r ≡ true) → r ≡ same xs ys
decided true xs ys f g = sym (rw (f refl) (same_refl ys))
decided false xs ys f g = go (same xs ys) refl
  where
    go : (b : Bool) → same xs ys ≡ b → false ≡ b
    go true t = g (same-eq xs ys t)
    go false t = refl

-- where a mark stands there is room for it
pub stands-room : (s : List ℕ) (at : ℕ) (m : List ℕ) → stands s at m ≡ true → length m ≤ length s - at
stands-room s at m h =
    let e : length (take (length m) (drop at s)) ≡ length m = ap length (same-eq (take (length m) (drop at s)) m h) in
    omega (arith, simp (length-take, length-drop) at e)

pub stands-cut : (s : List ℕ) (at : ℕ) (m : List ℕ) → (length m ≡ 0 → ⊥) → length s < at + length m → false ≡ stands s at m
stands-cut s at m n h = go (stands s at m) refl
  where
    go : (b : Bool) → stands s at m ≡ b → false ≡ b
    go true t = absurd (n (omega (arith, stands-room s at m t)))
    go false t = refl

-- a comparison with the part of s at a mark's place
pub stands_by : (s : List ℕ) (at : ℕ) (m : List ℕ) (r : Bool) → (r ≡ true → take (at + length m - at) (drop at s) ≡ m)
    → (take (at + length m - at) (drop at s) ≡ m → r ≡ true) → r ≡ stands s at m
stands_by s at m r f g =
    let k : at + length m - at ≡ length m = omega arith in
    decided r _ m (rw k at f) (rw k at g)

-- How many bytes stand before the first that is c, counted on from a place.
module _ (c : ℕ) (l : List ℕ) (i : ℕ) where
  pub found_here : i < length l → get_or l i 0 ≡ c → before c (drop i l) ≡ 0
  found_here h e = rw (drop-cons l i 0 h, eq-eqb _ _ e)

  pub found_later : i < length l → (get_or l i 0 ≡ c → ⊥) → before c (drop i l) ≡ suc (before c (drop (i + 1) l))
  found_later h e = rw (add-one, drop-cons l i 0 h, ne_eqb _ _ e)

-- the place k after i, as it is written where k is a numeral
abbrev pub after : ℕ → ℕ → ℕ
after i zero = i
after i (suc k) = i + suc k

after_is : (i k : ℕ) → after i k ≡ i + k
after_is i zero = omega arith
after_is i (suc k) = refl

-- none of the k bytes from i on is c
abbrev pub Lacks : ℕ → List ℕ → ℕ → ℕ → Type 0
Lacks c l i zero = Unit {0}
Lacks c l i (suc k) = Lacks c l i k × (get_or l (after i k) 0 ≡ c → ⊥)

-- the place of the first, where there was none before i: none among k more, and one after those
module _ (c : ℕ) (l : List ℕ) (place i : ℕ) (inv : place ≡ i + before c (drop i l)) where
  pub place-past : (k : ℕ) → i + k ≤ length l → Lacks c l i k → place ≡ after i k + before c (drop (after i k) l)
  place-past zero h n = inv
  place-past (suc k) h n =
      let j : i + suc k ≡ after i k + 1 = omega (arith, after_is i k) in
      rw j (omega (arith, place-past k (omega arith) n.0, found_later c l (after i k) (omega (arith, after_is i k)) n.1))

  pub place_here : (k : ℕ) → i + k < length l → Lacks c l i k → get_or l (after i k) 0 ≡ c → after i k ≡ place
  place_here k h n e = omega (arith, place-past k (omega arith) n, found_here c l (after i k) (omega (arith, after_is i k)) e)

pub before-le : (c : ℕ) (l : List ℕ) → before c l ≤ length l
before-le c [] = omega arith
before-le c (b ∷ bs) = go (eqb b c) (before-le c bs)
  where
    go : (t : Bool) → before c bs ≤ length bs → nearer t (before c bs) ≤ suc (length bs)
    go true h = omega arith
    go false h = omega arith
