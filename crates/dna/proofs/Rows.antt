-- The pass that fills: the rows of one element more, for each of the four tables.
use Prim.Native.Nat.{ℕ, ◌+◌, ◌-◌, ◌≤◌, ◌<◌}
use mathlib.Core.List.{List, [], ◌∷◌, ◌++◌}
use mathlib.Core.Path.{◌≡◌, refl, ◌∙◌, ap}
use native.Mathlib.Omega.{arith}
use Rattle.octets.specs.declared.Endianness.{Endianness}
use Rattle.octets.specs.declared.Fault.{Fault}
use Rattle.octets.specs.Helpers.{leading}
use Rattle.octets.specs.Reader.{Reader, run}
use Rattle.octets.specs.Reader.Outcome.{read, fault}
use Rattle.octets.proofs.Times.{leading-stops, leading-none}
use Rattle.dna.specs.Catalogue.{Text, pairs, type_rows, struct_rows, field_rows, text, size, field, struct}
use Rattle.dna.specs.Passes.{headed}
use Rattle.dna.proofs.Counting.{leading_next, headed-read, struct_fields}

-- names and fields: two numbers each
module _ (r : Reader (ℕ × ℕ)) (s : List ℕ) (n i at : ℕ) where
  pub pair_more : i < n → (a b next : ℕ) → run r s at ≡ read (a, b) next → pairs (leading (n - i) r s at) ≡ (a ∷ b ∷ []) ++ pairs (leading (n - (i + 1)) r s next)
  unfolding pairs
  pair_more h a b next e = ap pairs (leading_next r s n i at h (a, b) next e)

  pub pair_stops : (x : Fault) → run r s at ≡ fault x → pairs (leading (n - i) r s at) ≡ []
  unfolding pairs
  pair_stops x e = ap pairs (leading-stops r s (n - i) at x e)

  pub pair_none : n ≤ i → pairs (leading (n - i) r s at) ≡ []
  unfolding pairs
  pair_none h = ap pairs (leading-none r s (n - i) at (omega arith))

-- types: a text and a size
no-sizes : (ps : List Text) → type_rows ps [] ≡ []
unfolding type_rows
no-sizes [] = refl
no-sizes (p ∷ ps) = refl

module _ (e : Endianness) (s : List ℕ) (n i at zat : ℕ) where
  pub type_more : i < n → (a b next z znext : ℕ) → run text s at ≡ read (a, b) next → run (size e) s zat ≡ read z znext
      → type_rows (leading (n - i) text s at) (leading (n - i) (size e) s zat) ≡ (a ∷ b ∷ z ∷ []) ++ type_rows (leading (n - (i + 1)) text s next) (leading (n - (i + 1)) (size e) s znext)
  unfolding type_rows
  type_more h a b next z znext p q = rw (leading_next text s n i at h (a, b) next p, leading_next (size e) s n i zat h z znext q)

  pub type_no-place : (x : Fault) → run text s at ≡ fault x → type_rows (leading (n - i) text s at) (leading (n - i) (size e) s zat) ≡ []
  unfolding type_rows
  type_no-place x p = rw (leading-stops text s (n - i) at x p)

  pub type_no-size : (x : Fault) → run (size e) s zat ≡ fault x → type_rows (leading (n - i) text s at) (leading (n - i) (size e) s zat) ≡ []
  type_no-size x q = rw (leading-stops (size e) s (n - i) zat x q) (no-sizes (leading (n - i) text s at))

  pub type_none : n ≤ i → type_rows (leading (n - i) text s at) (leading (n - i) (size e) s zat) ≡ []
  unfolding type_rows
  type_none h = rw (leading-none text s (n - i) at (omega arith))

-- structs: type, first field row, field count; and their fields
module _ (e : Endianness) (s : List ℕ) (m i at : ℕ) where
  pub struct_more : i < m → (t n next row : ℕ) → headed (run (struct e) s at) ≡ read (t, n) next
      → struct_rows row (leading (m - i) (struct e) s at) ≡ (t ∷ row ∷ n ∷ []) ++ struct_rows (row + n) (leading (m - (i + 1)) (struct e) s next)
  unfolding struct_rows
  struct_more h t n next row g =
      let w = headed-read (run (struct e) s at) t n next g in
      ap (struct_rows row) (leading_next (struct e) s m i at h w.0 next w.1) ∙ rw (w.2, w.3)

  pub struct-no_more : (x : Fault) (row : ℕ) → run (struct e) s at ≡ fault x → struct_rows row (leading (m - i) (struct e) s at) ≡ []
  unfolding struct_rows
  struct-no_more x row g = ap (struct_rows row) (leading-stops (struct e) s (m - i) at x g)

  pub struct-none : (row : ℕ) → m ≤ i → struct_rows row (leading (m - i) (struct e) s at) ≡ []
  unfolding struct_rows
  struct-none row h = ap (struct_rows row) (leading-none (struct e) s (m - i) at (omega arith))

  pub fields_more : i < m → (t n next : ℕ) → headed (run (struct e) s at) ≡ read (t, n) next
      → field_rows (leading (m - i) (struct e) s at) ≡ pairs (leading n (field e) s (at + 4)) ++ field_rows (leading (m - (i + 1)) (struct e) s next)
  unfolding field_rows
  fields_more h t n next g =
      let w = headed-read (run (struct e) s at) t n next g in
      let f : w.0.1 ≡ leading n (field e) s (at + 4) = struct_fields e s at w.0 next w.1 ∙ ap (λ (k : ℕ). leading k (field e) s (at + 4)) w.3 in
      ap field_rows (leading_next (struct e) s m i at h w.0 next w.1) ∙ ap (λ (fs : List (ℕ × ℕ)). pairs fs ++ field_rows (leading (m - (i + 1)) (struct e) s next)) f

  pub fields-no_more : (x : Fault) → run (struct e) s at ≡ fault x → field_rows (leading (m - i) (struct e) s at) ≡ []
  unfolding field_rows
  fields-no_more x g = ap field_rows (leading-stops (struct e) s (m - i) at x g)

  pub fields-none : m ≤ i → field_rows (leading (m - i) (struct e) s at) ≡ []
  unfolding field_rows
  fields-none h = ap field_rows (leading-none (struct e) s (m - i) at (omega arith))
