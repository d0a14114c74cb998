-- Halves: bytes of twice a width spell what their two halves spell, joined, and the bytes of a number are those of its halves, one after another. Laws of the rules; the
-- code reads and writes a number at once.
use Prim.Native.Nat.{ℕ, zero, suc, ◌+◌, ◌*◌, ◌-◌, ◌/◌, ◌%◌, ◌^◌}
use mathlib.Core.List.{List, [], ◌∷◌, ◌++◌, reverse, reverse-append}
use mathlib.Core.Path.{◌≡◌, refl, sym, ◌∙◌, ap}
use native.Mathlib.Nat.{pow-succ', div-div-eq-div-mul, mul_left_comm}
use native.Mathlib.Omega.{arith}
use lib.ListN.{length, take, drop, length-reverse, length-drop, take-append-drop}
use lib.Seq.{take_all, length-take-le}
use Rattle.octets.specs.declared.Endianness.{Endianness}
use Rattle.octets.specs.declared.Endianness.TheVariants.{Little, Big}
use Rattle.octets.specs.Number.{little, spelled, digits, bytes_of}

little-join : (a b : List ℕ) → little (a ++ b) ≡ little a + little b * 256 ^ length a
little-join [] b = omega arith
little-join (x ∷ a) b =
    let p : little b * 256 ^ suc (length a) ≡ 256 * (little b * 256 ^ length a) = ap (λ (n : ℕ). little b * n) (pow-succ' 256 (length a)) ∙ mul_left_comm (little b) 256 (256 ^ length a) in
    omega (arith, p, little-join a b)

-- the number of the first half and that of the second, joined in an order
abbrev pub joined_by : Endianness → (base first second : ℕ) → ℕ
joined_by Little base first second = first + second * base
joined_by Big base first second = second + first * base

halves_spelled : (e : Endianness) (a b : List ℕ) (base : ℕ) → base ≡ 256 ^ length a → base ≡ 256 ^ length b → joined_by e base (spelled e a) (spelled e b) ≡ spelled e (a ++ b)
halves_spelled Little a b base p q = ap (λ (n : ℕ). little a + little b * n) p ∙ sym (little-join a b)
halves_spelled Big a b base p q =
    ap (λ (n : ℕ). little (reverse b) + little (reverse a) * n) (q ∙ ap (λ (k : ℕ). 256 ^ k) (sym (length-reverse b))) ∙ sym (ap little (reverse-append a b) ∙ little-join (reverse b) (reverse a))

module _ (e : Endianness) (l : List ℕ) (w base : ℕ) (h : length l ≡ w + w) (b : base ≡ 256 ^ w) where
  second : take (length l - w) (drop w l) ≡ drop w l
  second = take_all (length l - w) (drop w l) (omega (arith, length-drop w l))

  pub halves_read : (n m : ℕ) → n ≡ spelled e (take w l) → m ≡ spelled e (take (length l - w) (drop w l)) → joined_by e base n m ≡ spelled e l
  halves_read n m p q =
      let f : length (take w l) ≡ w = length-take-le w l (omega arith) in
      let g : length (drop w l) ≡ w = omega (arith, length-drop w l) in
      rw (p, q, second) (halves_spelled e (take w l) (drop w l) base (rw f b) (rw g b) ∙ ap (spelled e) (take-append-drop w l))

-- the number whose bytes come first, and the one whose bytes come second: in the little order the less significant half is first
abbrev pub first_half : Endianness → (base n : ℕ) → ℕ
first_half Little base n = n
first_half Big base n = n / base

abbrev pub second_half : Endianness → (base n : ℕ) → ℕ
second_half Little base n = n / base
second_half Big base n = n

digits-join : (a b n : ℕ) → digits (a + b) n ≡ digits a n ++ digits b (n / 256 ^ a)
digits-join zero b n =
    let e : zero + b ≡ b = omega arith in
    let d : n / 256 ^ zero ≡ n = omega arith in
    rw (e, d) refl
digits-join (suc a) b n =
    let e : suc a + b ≡ suc (a + b) = omega arith in
    let d : n / 256 / 256 ^ a ≡ n / 256 ^ suc a = div-div-eq-div-mul n 256 (256 ^ a) ∙ ap (λ (k : ℕ). n / k) (sym (pow-succ' 256 a)) in
    rw e (ap (λ (l : List ℕ). n % 256 ∷ l) (digits-join a b (n / 256) ∙ ap (λ (k : ℕ). digits a (n / 256) ++ digits b k) d))

pub bytes_of_halves : (e : Endianness) (w base n : ℕ) → base ≡ 256 ^ w → bytes_of e (w + w) n ≡ bytes_of e w (first_half e base n) ++ bytes_of e w (second_half e base n)
bytes_of_halves Little w base n h = digits-join w w n ∙ ap (λ (k : ℕ). digits w n ++ digits w (n / k)) (sym h)
bytes_of_halves Big w base n h =
    ap reverse (digits-join w w n) ∙ reverse-append (digits w n) (digits w (n / 256 ^ w)) ∙ ap (λ (k : ℕ). reverse (digits w (n / k)) ++ reverse (digits w n)) (sym h)
