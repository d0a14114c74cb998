-- Laws of the number that bytes spell, over the number of bytes and for both orders.
use Prim.Native.Nat.{ℕ, zero, suc, ◌+◌, ◌-◌, ◌^◌, ◌≤◌, ◌<◌}
use mathlib.Core.List.{List, [], ◌∷◌, ◌++◌, reverse, reverse-cons}
use mathlib.Core.Path.{◌≡◌, refl, sym, ◌∙◌, ap}
use mathlib.Core.Bool.{Bool, true, false}
use native.Mathlib.Nat.{pow-succ'}
use native.Mathlib.Omega.{arith}
use borrow.Author.Tests.{ltb-true, ltb-false}
use lib.Dec.{ltb}
use lib.ListN.{length, get_or, take, drop, length-reverse, get_or-append, get_or-eq_default}
use lib.Seq.{get_or_at, get_or-drop, length-take-le}
use Rattle.octets.specs.declared.Endianness.{Endianness}
use Rattle.octets.specs.declared.Endianness.TheVariants.{Little, Big}
use Rattle.octets.specs.Number.{Bytes, little, least_first, spelled}

pub little-lt : (l : List ℕ) → Bytes l → little l < 256 ^ length l
little-lt [] h = omega arith
little-lt (b ∷ bs) h = omega (arith, h 0, little-lt bs (λ k. h (suc k)), pow-succ' 256 (length bs))

pub least-length : (e : Endianness) (l : List ℕ) → length (least_first e l) ≡ length l
least-length Little l = refl
least-length Big l = length-reverse l

reversed_at : (l : List ℕ) (i : ℕ) → i < length l → get_or (reverse l) i 0 ≡ get_or l (length l - 1 - i) 0
reversed_at [] i h = absurd (omega arith)
reversed_at (x ∷ xs) i h = ap (λ (l : List ℕ). get_or l i 0) (reverse-cons x xs) ∙ go (ltb i (length xs)) refl (reversed_at xs i)
  where
    go : (b : Bool) → ltb i (length xs) ≡ b → (i < length xs → get_or (reverse xs) i 0 ≡ get_or xs (length xs - 1 - i) 0)
        → get_or (reverse xs ++ (x ∷ [])) i 0 ≡ get_or (x ∷ xs) (length (x ∷ xs) - 1 - i) 0
    go true t f =
        let h' : i < length xs = ltb-true _ _ t in
        let j : length (x ∷ xs) - 1 - i ≡ suc (length xs - 1 - i) = omega arith in
        rw j (get_or-append (reverse xs) (x ∷ []) 0 i (rw length-reverse h') ∙ f h')
    go false t f =
        let e : i ≡ length xs = omega (arith, ltb-false i (length xs) t) in
        let j : length (x ∷ xs) - 1 - i ≡ 0 = omega arith in
        rw j (get_or_at (reverse xs) x [] 0 i (length-reverse xs ∙ sym e))

pub least-bytes : (e : Endianness) (l : List ℕ) → Bytes l → Bytes (least_first e l)
least-bytes Little l h k = h k
least-bytes Big l h k = go (ltb k (length l)) refl
  where
    go : (b : Bool) → ltb k (length l) ≡ b → get_or (reverse l) k 0 < 256
    go true t = rw (reversed_at l k (ltb-true _ _ t)) (h (length l - 1 - k))
    go false t =
        let out : length (reverse l) ≤ k = omega (arith, length-reverse l, ltb-false k (length l) t) in
        rw (get_or-eq_default (reverse l) 0 out) (omega arith)

-- a part of bytes is bytes
pub take-bytes : (l : List ℕ) (n : ℕ) → Bytes l → Bytes (take n l)
take-bytes l zero b k = omega arith
take-bytes [] (suc n) b k = omega arith
take-bytes (x ∷ xs) (suc n) b zero = b 0
take-bytes (x ∷ xs) (suc n) b (suc k) = take-bytes xs n (λ j. b (suc j)) k

-- a number of n bytes is below 256 to the n
pub spelled-lt : (e : Endianness) (l : List ℕ) (n : ℕ) → Bytes l → n ≤ length l → spelled e (take n l) < 256 ^ n
spelled-lt e l n b h =
    let t = take n l in
    let len : length (least_first e t) ≡ n = least-length e t ∙ length-take-le n l h in
    rw len at (little-lt (least_first e t) (least-bytes e t (take-bytes l n b)))

-- a part of bytes, from a place on, is bytes
pub drop-bytes : (l : List ℕ) (n : ℕ) → Bytes l → Bytes (drop n l)
drop-bytes l n b k = rw (get_or-drop n l k 0) (b (n + k))
