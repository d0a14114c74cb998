-- Decimal numbers, digit by digit from a place on.
use Prim.Native.Nat.{ℕ, suc, ◌+◌, ◌*◌, ◌-◌, ◌≤◌, ◌<◌}
use mathlib.Core.Bool.{Bool, true, false}
use mathlib.Core.List.{List, [], ◌∷◌}
use mathlib.Core.Option.{Option, none, some}
use mathlib.Core.Path.{◌≡◌, refl, sym}
use native.Mathlib.Numerals.{add-one}
use native.Mathlib.Omega.{arith}
use borrow.Author.Tests.{le-leb, lt-leb, eq-eqb, ne_eqb}
use lib.ListN.{length, get_or, drop, drop_of_length-le}
use lib.Seq.{drop-cons}
use Rattle.std.specs.Prelude.{Option as Held, Some, None}
use Rattle.octets.specs.Ascii.{is_digit}
use Rattle.octets.proofs.Tests.{held, failed}
use Rattle.field.specs.Declarators.{most, digits, at_most, unsigned, decimal}
use Rattle.field.specs.Helpers.{capped, with_digit}
use Rattle.field.proofs.Products.{capped_some, capped_none}

-- a number that is too large stays so
too_large : (n : ℕ) (l : List ℕ) → most < n → none ≡ at_most (digits n l)
unfolding digits
too_large n [] h = sym (failed _ _ (lt-leb n most h))
too_large n (b ∷ bs) h = go (is_digit b) (too_large (n * 10 + (b - 48)) bs (omega arith))
  where
    go : (c : Bool) → none ≡ at_most (digits (n * 10 + (b - 48)) bs)
        → none ≡ at_most (elim c as (λ (x : Bool). Option ℕ) [ true ↦ digits (n * 10 + (b - 48)) bs | false ↦ none ])
    go true f = f
    go false f = refl

-- one digit more, as the code goes on: where it has none, neither has the rule
no-next : (n b : ℕ) (bs : List ℕ) → with_digit n b ≡ None → none ≡ at_most (digits n (b ∷ bs))
unfolding digits
no-next n b bs h = go (is_digit b) h
  where
    go : (c : Bool) → ◌≡◌ {A = Held ℕ} (elim c [ true ↦ capped (n * 10 + (b - 48)) | false ↦ None ]) None
        → none ≡ at_most (elim c as (λ (x : Bool). Option ℕ) [ true ↦ digits (n * 10 + (b - 48)) bs | false ↦ none ])
    go true e = too_large (n * 10 + (b - 48)) bs (capped_none _ e)
    go false e = refl

next : (n b m : ℕ) (bs : List ℕ) → with_digit n b ≡ Some m → (m ≤ most) × (digits n (b ∷ bs) ≡ digits m bs)
unfolding digits
next n b m bs h = go (is_digit b) h
  where
    go : (c : Bool) → ◌≡◌ {A = Held ℕ} (elim c [ true ↦ capped (n * 10 + (b - 48)) | false ↦ None ]) (Some m)
        → (m ≤ most) × ((elim c as (λ (x : Bool). Option ℕ) [ true ↦ digits (n * 10 + (b - 48)) bs | false ↦ none ]) ≡ digits m bs)
    go true e =
        let w = capped_some _ m e in
        (rw w.0 w.1, rw w.0)
    go false e = (cc, cc)

module _ (n : ℕ) (l : List ℕ) (i : ℕ) where
  pub no-digit_at : i < length l → with_digit n (get_or l i 0) ≡ None → none ≡ at_most (digits n (drop i l))
  no-digit_at h e = rw (drop-cons l i 0 h) (no-next n (get_or l i 0) (drop (suc i) l) e)

  pub digit_at : (m : ℕ) → i < length l → with_digit n (get_or l i 0) ≡ Some m → (m ≤ most) × (digits n (drop i l) ≡ digits m (drop (i + 1) l))
  digit_at m h e = rw (add-one, drop-cons l i 0 h) (next n (get_or l i 0) m (drop (suc i) l) e)

  pub no_more : length l ≤ i → n ≤ most → some n ≡ at_most (digits n (drop i l))
  unfolding digits
  no_more h t = rw (drop_of_length-le l h) (sym (held _ _ (le-leb n most t)))

-- a sign, and none
pub signed_decimal : (l : List ℕ) → 1 ≤ length l → get_or l 0 0 ≡ 43 → unsigned (drop 1 l) ≡ decimal l
unfolding decimal
signed_decimal [] z h = absurd (omega arith)
signed_decimal (b ∷ bs) z h = sym (held _ _ (eq-eqb b 43 h))

pub empty_decimal : (l : List ℕ) → length l < 1 → unsigned l ≡ decimal l
unfolding decimal
empty_decimal [] h = refl
empty_decimal (b ∷ bs) h = absurd (omega arith)

pub plain-decimal : (l : List ℕ) → (get_or l 0 0 ≡ 43 → ⊥) → unsigned l ≡ decimal l
unfolding decimal
plain-decimal [] h = refl
plain-decimal (b ∷ bs) h = sym (failed _ _ (ne_eqb b 43 h))
