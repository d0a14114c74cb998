-- The numbers that `blend_field` tells of a declarator lead back to it; and a width by whether they tell a refusal.
use Prim.Native.Nat.{ℕ}
use mathlib.Core.Path.{◌≡◌, refl}
use borrow.Author.Tests.{eq-eqb, ne_eqb}
use Rattle.octets.specs.declared.PointerSize.{PointerSize}
use Rattle.octets.specs.Refusals.{name_not_fully_read}
use Rattle.octets.proofs.Tests.{held, failed}
use Rattle.field.specs.declared.field.Declarator.{Declarator}
use Rattle.field.specs.declared.field.FieldInfo.{FieldInfo}
use Rattle.field.specs.declared.field.Span.{Span}
use Rattle.field.specs.Declarators.{paper_declarator, width_as}
use Rattle.exports.specs.declared.BlendField.{BlendField}
use Rattle.exports.specs.Exports.{field_out, declarator_of, width_of}

abbrev Back : Declarator → Type 0
Back d = ((field_out (paper_declarator d)).refusal ≡ 0) × (declarator_of (field_out (paper_declarator d)) ≡ d)

back_by : (kind : FieldInfo) (name rest : Span) → Back (record { name = name; rest = rest; kind = kind })
back_by FieldInfo.Value name rest = (refl, refl)
back_by (FieldInfo.ValueArray len dimensions) name rest = (refl, refl)
back_by (FieldInfo.Pointer n) name rest = (refl, refl)
back_by (FieldInfo.PointerArray n len dimensions) name rest = (refl, refl)
back_by FieldInfo.FnPointer name rest = (refl, refl)

pub back : (d : Declarator) → Back d
back d = back_by d.kind d.name d.rest

module _ (f : BlendField) (size : ℕ) (p : PointerSize) where
  pub width_told_lem : f.refusal ≡ 0 → width_of f size p ≡ width_as (declarator_of f) size p
  width_told_lem e = held _ _ (eq-eqb _ _ e)

  pub width-refused : (f.refusal ≡ 0 → ⊥) → width_of f size p ≡ name_not_fully_read
  width-refused h = failed _ _ (ne_eqb _ _ h)
