-- A test that holds goes on with the one, and a test that fails with the other.
use mathlib.Core.Bool.{Bool, true, false, ◌&&◌}
use mathlib.Core.Path.{◌≡◌, refl, ap}

module _ {A : Type 0} {b : Bool} (x y : A) where
  pub held : b ≡ true → (elim b as (λ (c : Bool). A) [ true ↦ x | false ↦ y ]) ≡ x
  held e = ap (λ (d : Bool). elim d as (λ (c : Bool). A) [ true ↦ x | false ↦ y ]) e

  pub failed : b ≡ false → (elim b as (λ (c : Bool). A) [ true ↦ x | false ↦ y ]) ≡ y
  failed e = ap (λ (d : Bool). elim d as (λ (c : Bool). A) [ true ↦ x | false ↦ y ]) e

-- two tests that both hold
pub both-held : (a b : Bool) → (a && b) ≡ true → (a ≡ true) × (b ≡ true)
both-held true b e = (refl, e)
both-held false b e = (e, cc)
