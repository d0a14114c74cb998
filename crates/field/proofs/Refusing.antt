-- No declarator is refused by the number 0.
use Prim.Native.Nat.{ℕ, zero, suc}
use mathlib.Core.Bool.{Bool, true, false}
use mathlib.Core.List.{List}
use mathlib.Core.Path.{◌≡◌, refl, ◌∙◌}
use native.Mathlib.Omega.{arith}
use lib.Dec.{leb, ltb}
use lib.ListN.{length}
use Rattle.octets.specs.Paper.Paper.{refuses}
use Rattle.octets.specs.Refusals.{dimension_table_too_short, product_too_large}
use Rattle.octets.proofs.Tests.{held, failed}
use Rattle.field.specs.Declarators.{Said, Span, most, product, plain_told, array_told, scanned_as, parsed_as}
use Rattle.field.specs.Declarators.Said.{function, plain, array, invalid}

plain-is : (n : ℕ) (name rest : Span) (vs : List ℕ) → refuses 0 vs ≡ plain_told n name rest → ⊥
plain-is zero name rest vs e = let z : ◌≡◌ {A = ℕ} 0 1 = cc in omega arith
plain-is (suc n) name rest vs e = let z : ◌≡◌ {A = ℕ} 0 1 = cc in omega arith

array-is : (n : ℕ) (name rest : Span) (ds vs : List ℕ) → refuses 0 vs ≡ array_told n name rest ds → ⊥
array-is zero name rest ds vs e = let z : ◌≡◌ {A = ℕ} 0 1 = cc in omega arith
array-is (suc n) name rest ds vs e = let z : ◌≡◌ {A = ℕ} 0 1 = cc in omega arith

scan_not_zero : (q : Said) (vs : List ℕ) → refuses 0 vs ≡ scanned_as q → ⊥
scan_not_zero (function name rest) vs e = let z : ◌≡◌ {A = ℕ} 0 1 = cc in omega arith
scan_not_zero (plain n name rest) vs e = plain-is n name rest vs e
scan_not_zero (array n name rest ds) vs e = go (leb (product ds) most) refl
  where
    go : (b : Bool) → leb (product ds) most ≡ b → ⊥
    go true t = array-is n name rest ds vs (e ∙ held _ _ t)
    go false t =
        let k : refuses 0 vs ≡ product_too_large = e ∙ failed _ _ t in
        let z : ◌≡◌ {A = ℕ} 0 10 = cc in
        omega arith
scan_not_zero invalid vs e = let z : ◌≡◌ {A = ℕ} 0 9 = cc in omega arith

pub not_zero : (q : Said) (room : ℕ) (vs : List ℕ) → refuses 0 vs ≡ parsed_as q room → ⊥
not_zero (function name rest) room vs e = scan_not_zero (function name rest) vs e
not_zero (plain n name rest) room vs e = scan_not_zero (plain n name rest) vs e
not_zero (array n name rest ds) room vs e = go (ltb room (length ds)) refl
  where
    go : (b : Bool) → ltb room (length ds) ≡ b → ⊥
    go true t =
        let k : refuses 0 vs ≡ dimension_table_too_short (length ds) = e ∙ held _ _ t in
        let z : ◌≡◌ {A = ℕ} 0 11 = cc in
        omega arith
    go false t = scan_not_zero (array n name rest ds) vs (e ∙ failed _ _ t)
not_zero invalid room vs e = scan_not_zero invalid vs e
