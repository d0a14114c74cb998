-- Laws of version digits: one byte more.
use Prim.Native.Char.{code}
use Prim.Native.Nat.{ℕ, suc, ◌+◌, ◌*◌, ◌-◌, ◌^◌, ◌≤◌, ◌<◌}
use mathlib.Core.Bool.{Bool, true, false, ◌&&◌}
use mathlib.Core.List.{List, [], ◌∷◌}
use mathlib.Core.Path.{◌≡◌, refl, sym, ◌∙◌, ap}
use native.Mathlib.Omega.{arith}
use borrow.Author.Tests.{le-leb, leb-true}
use lib.Dec.{leb}
use lib.ListN.{length, drop, get_or, drop_of_length-le}
use lib.Seq.{drop-cons}
use Rattle.octets.specs.Ascii.{is_digit}
use Rattle.octets.proofs.Tests.{held, failed}
use Rattle.header.specs.Header.{decimal}

module _ (n b : ℕ) where
  digit : code "0" ≤ b → b ≤ code "9" → is_digit b ≡ true
  digit h k = ap (λ (t : Bool). t && leb b (code "9")) (le-leb _ _ h) ∙ le-leb _ _ k

  pub one-digit : code "0" ≤ b → b ≤ code "9" → n * 10 + (b - code "0") ≡ decimal n (b ∷ [])
  unfolding decimal
  one-digit h k = sym (held _ _ (digit h k))

  -- one byte, and then the others
  pub split : (bs : List ℕ) → decimal n (b ∷ bs) ≡ decimal (decimal n (b ∷ [])) bs
  unfolding decimal
  split bs = go (is_digit b) refl
    where
      go : (t : Bool) → is_digit b ≡ t → decimal n (b ∷ bs) ≡ decimal (decimal n (b ∷ [])) bs
      go true e = held _ _ e ∙ ap (λ (m : ℕ). decimal m bs) (sym (held _ _ e))
      go false e = failed _ _ e ∙ ap (λ (m : ℕ). decimal m bs) (sym (failed _ _ e))

  pub grows : (k : ℕ) → n < k → decimal n (b ∷ []) < k * 10
  unfolding decimal
  grows k h = go (is_digit b) refl
    where
      nine : is_digit b ≡ true → b - code "0" ≤ 9
      nine e = below (leb (code "0") b) e
        where
          below : (t : Bool) → (t && leb b (code "9")) ≡ true → b - code "0" ≤ 9
          below true g = omega (arith, leb-true b (code "9") g)
          below false g =
              let z : ◌≡◌ {A = ℕ} 0 1 = cc in
              absurd (omega arith)

      go : (t : Bool) → is_digit b ≡ t → decimal n (b ∷ []) < k * 10
      go true e = rw (held {b = is_digit b} (n * 10 + (b - code "0")) n e) (omega (arith, nine e))
      go false e = rw (failed {b = is_digit b} (n * 10 + (b - code "0")) n e) (omega arith)

pub decimal_more : (n : ℕ) (l : List ℕ) (i r : ℕ) → i < length l → r ≡ decimal n (get_or l i 0 ∷ []) → decimal n (drop i l) ≡ decimal r (drop (i + 1) l)
decimal_more n l i r h q =
    let e : suc i ≡ i + 1 = omega arith in
    ap (decimal n) (drop-cons l i 0 h) ∙ split n (get_or l i 0) (drop (suc i) l) ∙ rw (q, e) refl

pub decimal-last : (n : ℕ) (l : List ℕ) (i : ℕ) → length l ≤ i → decimal n (drop i l) ≡ n
unfolding decimal
decimal-last n l i h = ap (decimal n) (drop_of_length-le l h)

pub bounded : (i n b r : ℕ) → r ≡ decimal n (b ∷ []) → n < 10 ^ i → r < 10 ^ (i + 1)
bounded i n b r e h =
    let k : suc i ≡ i + 1 = omega arith in
    rw (e, ← k) (omega (arith, grows n b (10 ^ i) h))
