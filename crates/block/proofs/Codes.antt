-- Laws of a block's code: when it is two bytes and then two zeros.
use Prim.Native.Nat.{ℕ, ◌%◌, ◌^◌, ◌≤◌}
use mathlib.Core.Bool.{Bool, true, false, ◌&&◌}
use mathlib.Core.Path.{◌≡◌, refl, ◌∙◌, ap}
use borrow.Author.Tests.{ne_eqb, le-ltb}
use native.Mathlib.Omega.{arith}
use lib.Dec.{eqb}
use Rattle.octets.proofs.Tests.{failed}
use Rattle.block.specs.declared.Kind.{Kind}
use Rattle.block.specs.Kinds.{code_number, is_principal, kind_of}

-- a number that is none of the five codes with a name
module _ (n : ℕ) (a : n ≡ code_number "REND" → ⊥) (b : n ≡ code_number "TEST" → ⊥) (c : n ≡ code_number "GLOB" → ⊥) (d : n ≡ code_number "DATA" → ⊥) (e : n ≡ code_number "DNA1" → ⊥) where
  other : (p : Bool) → is_principal n ≡ p → kind_of n ≡ (elim p [ true ↦ Kind.Principal | false ↦ Kind.Unknown ])
  unfolding kind_of
  other p h =
      failed _ _ (ne_eqb _ _ a) ∙ failed _ _ (ne_eqb _ _ b) ∙ failed _ _ (ne_eqb _ _ c) ∙ failed _ _ (ne_eqb _ _ d) ∙ failed _ _ (ne_eqb _ _ e)
      ∙ ap (λ (q : Bool). elim q as (λ (x : Bool). Kind) [ true ↦ Kind.Principal | false ↦ Kind.Unknown ]) h

  pub other-principal : is_principal n ≡ true → kind_of n ≡ Kind.Principal
  other-principal h = other true h

  pub other_unknown : is_principal n ≡ false → kind_of n ≡ Kind.Unknown
  other_unknown h = other false h

-- what four bytes do not hold is no block code, and neither is the end mark
pub large_unknown : (n : ℕ) → 256 ^ 4 ≤ n → kind_of n ≡ Kind.Unknown
large_unknown n h = other_unknown n (λ e. omega (arith, h, e)) (λ e. omega (arith, h, e)) (λ e. omega (arith, h, e)) (λ e. omega (arith, h, e)) (λ e. omega (arith, h, e)) (ap (λ (t : Bool). t && eqb (n % 2 ^ 16) 0) (le-ltb n (2 ^ 32) (omega (arith, h))))

pub mark_unknown : kind_of (code_number "ENDB") ≡ Kind.Unknown
unfolding kind_of
mark_unknown = refl
