-- Laws of primitive values, over the width and the kind.
use Prim.Native.Nat.{ℕ, ◌+◌, ◌*◌, ◌-◌, ◌%◌, ◌^◌, ◌≤◌, ◌<◌}
use mathlib.Core.Bool.{Bool, true, false, not}
use mathlib.Core.List.{List, [], ◌∷◌}
use mathlib.Core.Path.{◌≡◌, refl, ◌∙◌, sym, ap}
use native.Mathlib.Omega.{arith}
use borrow.Author.Tests.{leb-true, leb-false, lt-ltb, le-ltb, ltb-false}
use lib.Dec.{T, ltb}
use lib.Ieee.{Float, Format, of_bits, to_bits, nan_bits, is_nan, ones, hid, top}
use lib.Ieee.Bits.{nan_bits_above, nan_bits_is, to_bits-of_bits}
use lib.ListN.{length, take, drop, length-take, length-drop}
use lib.Seq.{take-take}
use Rattle.octets.specs.declared.Endianness.{Endianness}
use Rattle.octets.specs.declared.Fault.{Fault}
use Rattle.octets.specs.declared.Fault.TheVariants.{Cut}
use Rattle.octets.specs.Helpers.{number_at}
use Rattle.octets.specs.Number.{Bytes, spelled, number}
use Rattle.octets.specs.Paper.{Paper}
use Rattle.octets.specs.Paper.Paper.{accepts, real, refuses}
use Rattle.octets.specs.Reader.{Outcome, run, room}
use Rattle.octets.specs.Reader.Reader.{done}
use Rattle.octets.specs.Reader.Outcome.{read, fault}
use Rattle.primitive.specs.Primitive.{value_of, unsigned, float}
use Rattle.octets.proofs.Tests.{held, failed}
use Rattle.octets.proofs.Digits.{spelled-lt}

-- a number from the start of a slice: the slice has it, or is too short
module _ (width : ℕ) (e : Endianness) (s : List ℕ) where
  start-read : (n next : ℕ) → read n next ≡ run (number e width done) s 0 → (width ≤ length s) × (n ≡ spelled e (take width s))
  unfolding run
  start-read n next h = go (room s 0 width) refl h
    where
      go : (t : Bool) → room s 0 width ≡ t → read n next ≡ (elim t as (λ (c : Bool). Outcome ℕ) [ true ↦ read (spelled e (take width s)) (0 + width) | false ↦ fault (Cut 0) ])
          → (width ≤ length s) × (n ≡ spelled e (take width s))
      go true t g = (omega (arith, leb-true (0 + width) (length s) t), cc)
      go false t g =
          let z : ◌≡◌ {A = ℕ} 0 1 = cc in
          absurd (omega arith)

  start-stops : (x : Fault) → fault x ≡ run (number e width done) s 0 → length s < width
  unfolding run
  start-stops x h = go (room s 0 width) refl h
    where
      go : (t : Bool) → room s 0 width ≡ t → ◌≡◌ {A = Outcome ℕ} (fault x) (elim t as (λ (c : Bool). Outcome ℕ) [ true ↦ read (spelled e (take width s)) (0 + width) | false ↦ fault (Cut 0) ]) → length s < width
      go true t g =
          let z : ◌≡◌ {A = ℕ} 0 1 = cc in
          absurd (omega arith)
      go false t g = omega (arith, leb-false (0 + width) (length s) t)

  pub value-fits : Bytes s → (n next : ℕ) → read n next ≡ run (number e width done) s 0 → n < 256 ^ width
  value-fits b n next h =
      let w = start-read n next h in
      rw w.1 (spelled-lt e s width b w.0)

module _ (width : ℕ) (kind : ℕ → Paper) (e : Endianness) (s : List ℕ) where
  -- a slice that is too short, and one that is not
  pub too_short : (x : Fault) → fault x ≡ run (number e width done) s 0 → refuses 12 [] ≡ value_of width kind e s
  unfolding value_of
  too_short x h = sym (held _ _ (lt-ltb _ _ (start-stops width e s x h)))

  long-enough : width ≤ length s → (n : ℕ) → n ≡ spelled e (take width s) → kind n ≡ value_of width kind e s
  unfolding value_of
  long-enough h n t = ap kind t ∙ sym (failed _ _ (le-ltb _ _ h))

  pub value_read : (n next : ℕ) → read n next ≡ run (number e width done) s 0 → kind n ≡ value_of width kind e s
  value_read n next h =
      let w = start-read width e s n next h in
      long-enough w.0 n w.1

-- a value of a slice that is as long as it
module _ (w : ℕ) (e : Endianness) (s : List ℕ) (at : ℕ) (h : at + w ≤ length s) where
  value_there : value_of w unsigned e (take (at + w - at) (drop at s)) ≡ unsigned (number_at e w s at)
  value_there =
      sym (long-enough w unsigned e (take (at + w - at) (drop at s)) (omega (arith, length-take (at + w - at) (drop at s), length-drop at s)) _ (ap (spelled e) (sym (take-take w (at + w - at) (drop at s) (omega arith)))))

  pub value-is : (n : ℕ) → unsigned n ≡ value_of w unsigned e (take (at + w - at) (drop at s)) → n ≡ number_at e w s at
  value-is n g =
      let k : unsigned n ≡ unsigned (number_at e w s at) = g ∙ value_there in
      cc

  pub value_lacks : {A : Type 0} (m : ℕ) → refuses m [] ≡ value_of w unsigned e (take (at + w - at) (drop at s)) → A
  value_lacks m g =
      let k : refuses m [] ≡ unsigned (number_at e w s at) = g ∙ value_there in
      let z : ◌≡◌ {A = ℕ} 0 1 = cc in
      absurd (omega arith)

-- Floats: which patterns are a NaN's, how each is told, and that the others come back from the float, bit for bit.
module _ (f : Format) (n : ℕ) where
  pub nan_told : ones f * hid f < n % top f → accepts 1 (n ∷ []) ≡ float f n
  nan_told h = sym (held _ _ (nan_bits_above f n ∙ lt-ltb _ _ h))

  no_nan : n % top f ≤ ones f * hid f → nan_bits f n ≡ false
  no_nan h = nan_bits_above f n ∙ le-ltb _ _ h

  pub may_be_made : n % top f ≤ ones f * hid f → T (not (nan_bits f n))
  may_be_made h = rw (no_nan h) tt

  pub float-told : n % top f ≤ ones f * hid f → real (of_bits f n) ≡ float f n
  float-told h = sym (failed _ _ (no_nan h))

  bits_back : n < 2 * top f → nan_bits f n ≡ false → to_bits f (of_bits f n) ≡ n
  bits_back h t =
      let u : is_nan (of_bits f n) ≡ false = sym (nan_bits_is f n) ∙ t in
      to_bits-of_bits f n h (rw u tt)

  float_is : (x : Float) → n < 2 * top f → real x ≡ float f n → to_bits f x ≡ n
  float_is x l h = go (nan_bits f n) refl
    where
      go : (b : Bool) → nan_bits f n ≡ b → to_bits f x ≡ n
      go true t =
          let g : real x ≡ accepts 1 (n ∷ []) = h ∙ held _ _ t in
          cc
      go false t =
          let g : real x ≡ real (of_bits f n) = h ∙ failed _ _ t in
          let q : x ≡ of_bits f n = cc in
          rw q (bits_back l t)

-- The bits of a float that was answered are the bits that were read.
pub float-bits : (f : Format) (width : ℕ) (e : Endianness) (s : List ℕ) (x : Float) → Bytes s → 256 ^ width ≡ 2 * top f → real x ≡ value_of width (float f) e s
    → to_bits f x ≡ spelled e (take width s)
unfolding value_of
float-bits f width e s x b w h = go (ltb (length s) width) refl
  where
    go : (c : Bool) → ltb (length s) width ≡ c → to_bits f x ≡ spelled e (take width s)
    go true t =
        let g : real x ≡ refuses 12 [] = h ∙ held _ _ t in
        cc
    go false t =
        let g : real x ≡ float f (spelled e (take width s)) = h ∙ failed _ _ t in
        let l : spelled e (take width s) < 2 * top f = rw w at (spelled-lt e s width b (ltb-false _ _ t)) in
        float_is f (spelled e (take width s)) x l g
