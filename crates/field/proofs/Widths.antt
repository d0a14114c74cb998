-- A width by the length of the rest: where it is 0, what the width was before request 2; where it is not, refusal 15.
use Prim.Native.Nat.{ℕ, ◌*◌}
use mathlib.Core.Path.{◌≡◌, refl, ◌∙◌, ap}
use native.Mathlib.Nat.{mul-one}
use borrow.Author.Tests.{eq-eqb, ne_eqb}
use Rattle.octets.proofs.Tests.{held, failed}
use Rattle.octets.specs.PointerSize.{pointer_bytes}
use Rattle.octets.specs.Refusals.{name_not_fully_read}
use Rattle.octets.specs.declared.PointerSize.{PointerSize}
use Rattle.field.specs.declared.field.Declarator.{Declarator}
use Rattle.field.specs.declared.field.FieldInfo.{FieldInfo}
use Rattle.field.specs.Declarators.{unit_of, length_of, width_told, width_as}
use Rattle.field.specs.Former.{former_bytes, former_width_as}

former_bytes_lem : (k : FieldInfo) (size : ℕ) (p : PointerSize) → unit_of k size p * length_of k ≡ former_bytes k size p
former_bytes_lem FieldInfo.Value size p = mul-one size
former_bytes_lem (FieldInfo.ValueArray len dimensions) size p = refl
former_bytes_lem (FieldInfo.Pointer n) size p = mul-one (pointer_bytes p)
former_bytes_lem (FieldInfo.PointerArray n len dimensions) size p = refl
former_bytes_lem FieldInfo.FnPointer size p = mul-one (pointer_bytes p)

module _ (d : Declarator) (size : ℕ) (p : PointerSize) where
  pub no-rest : d.rest.len ≡ 0 → width_as d size p ≡ width_told (unit_of d.kind size p * length_of d.kind)
  no-rest e = held _ _ (eq-eqb _ _ e)

  pub as_former : d.rest.len ≡ 0 → width_as d size p ≡ former_width_as d size p
  as_former e = no-rest e ∙ ap width_told (former_bytes_lem d.kind size p)

  pub no-width : (d.rest.len ≡ 0 → ⊥) → width_as d size p ≡ name_not_fully_read
  no-width h = failed _ _ (ne_eqb _ _ h)
