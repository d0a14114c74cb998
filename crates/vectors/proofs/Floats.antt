-- A float that a reading of bytes answers is no NaN, in either format: a NaN has a case of its own.
use Rattle.std.proofs.Common.{◌≡◌, ℕ, Bool, true, false, not, T, ltb, List, [], ◌∷◌, length, take, sym, refl, ◌∙◌}
use lib.Ieee.{Float, Format, is_nan, of_bits, nan_bits}
use lib.Ieee.Bits.{nan_bits_is}
use Rattle.octets.specs.declared.Endianness.{Endianness}
use Rattle.octets.specs.Number.{spelled}
use Rattle.octets.specs.Paper.Paper.{accepts, real, refuses}
use Rattle.primitive.specs.Primitive.{value_of, float}
use Rattle.octets.proofs.Tests.{held, failed}

module _ (f : Format) (x : Float) where
  of-bits : (n : ℕ) → real x ≡ float f n → is_nan x ≡ false
  of-bits n h = go (nan_bits f n) refl
    where
      go : (b : Bool) → nan_bits f n ≡ b → is_nan x ≡ false
      go true t =
          let g : real x ≡ accepts 1 (n ∷ []) = h ∙ held _ _ t in
          cc
      go false t =
          let g : real x ≡ real (of_bits f n) = h ∙ failed _ _ t in
          let q : x ≡ of_bits f n = cc in
          rw q (sym (nan_bits_is f n) ∙ t)

  of-bytes : (width : ℕ) (e : Endianness) (s : List ℕ) → real x ≡ value_of width (float f) e s → is_nan x ≡ false
  unfolding value_of
  of-bytes width e s h = go (ltb (length s) width) refl
    where
      go : (b : Bool) → ltb (length s) width ≡ b → is_nan x ≡ false
      go true t =
          let g : real x ≡ refuses 12 [] = h ∙ held _ _ t in
          cc
      go false t = of-bits (spelled e (take width s)) (h ∙ failed _ _ t)

  pub no_nan : (width : ℕ) (e : Endianness) (s : List ℕ) → real x ≡ value_of width (float f) e s → T (not (is_nan x))
  no_nan width e s h = rw (of-bytes width e s h) tt
