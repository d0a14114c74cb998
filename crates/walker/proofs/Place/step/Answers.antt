-- `step`: 13, the header, and what is at the boundary.
use mathlib.Core.Path.{◌≡◌, refl, sym, ◌∙◌, ap}
use mathlib.Core.Bool.{Bool}
use Prim.Native.Nat.{◌+◌}
use Rattle.header.specs.Header.{header_bytes, paper_header}
use Rattle.walker.specs.Walker.{step_by, end_mark, last_is_dna}
use Rattle.blend.proofs.Answers.{header-found, refused-told}
use Rattle.walker.proofs.Steps.{step_past, step-refused, step_over_lem, step_told_lem}
use Rattle.std.specs.Prelude.{Option, Some, None, Ok}
use Rattle.std.specs.Option.{is_some}
use Rattle.dna.specs.declared.dna.DnaCounts.{DnaCounts}
use Rattle.walker.proofs.Place.step.Goals as goal

dna_is : (l : Option DnaCounts) → is_some l ≡ last_is_dna l
dna_is None = refl
dna_is (Some n) = refl

pub returns-then-file-self : goal.returns-then-file-self
returns-then-file-self c =
    let a = c.args in
    step_told_lem (step_by header_bytes a.file.now a.self) _ (step_past header_bytes a.file.now a.self c.if-file-self.true) _ refl _ refl

pub returns-in_default : goal.returns-in_default
returns-in_default c =
    let a = c.args in
    step_told_lem (step_by header_bytes a.file.now a.self) _ (step-refused header_bytes a.file.now a.self c.if-file-self.false _ (refused-told a.file.now c.unwrap_err.result (ap paper_header (sym c.unwrap_err.ensures) ∙ c.header-answer.ensures))) _ refl _ refl

pub returns-then-from : goal.returns-then-from
returns-then-from c =
    let a = c.args in
    step_told_lem (step_by header_bytes a.file.now a.self) _ (step_over_lem header_bytes a.file.now a.self c.if-file-self.false c.in-Ok.h _ (header-found a.file.now c.in-Ok.h _ c.in-Ok.ensures) _ c.stands_for-from.ensures _ (sym c.in-Ok-EndMark.ensures ∙ ap Ok c.in-Ok-EndMark.field-0-is)) _ (ap (λ (t : Bool). end_mark t (c.stands_for-from.result.at + 4)) (sym c.if-from.true)) _ refl

pub returns-else-from : goal.returns-else-from
returns-else-from c =
    let a = c.args in
    step_told_lem (step_by header_bytes a.file.now a.self) _ (step_over_lem header_bytes a.file.now a.self c.if-file-self.false c.in-Ok.h _ (header-found a.file.now c.in-Ok.h _ c.in-Ok.ensures) _ c.stands_for-from.ensures _ (sym c.in-Ok-EndMark.ensures ∙ ap Ok c.in-Ok-EndMark.field-0-is)) _ (ap (λ (t : Bool). end_mark t (c.stands_for-from.result.at + 4)) (sym c.if-from.false)) _ refl

pub returns-in-Ok-Block : goal.returns-in-Ok-Block
returns-in-Ok-Block c =
    let a = c.args in
    step_told_lem (step_by header_bytes a.file.now a.self) _ (step_over_lem header_bytes a.file.now a.self c.if-file-self.false c.in-Ok.h _ (header-found a.file.now c.in-Ok.h _ c.in-Ok.ensures) _ c.stands_for-from.ensures _ (sym c.in-Ok-Block.ensures ∙ ap Ok c.in-Ok-Block.field-0-is)) _ refl _ (ap (λ (b : Bool). record { at = c.in-Ok-Block.next; dna = b }) (c.is_some.ensures ∙ dna_is _))

pub returns-in-Err : goal.returns-in-Err
returns-in-Err c =
    let a = c.args in
    step_told_lem (step_by header_bytes a.file.now a.self) _ (step_over_lem header_bytes a.file.now a.self c.if-file-self.false c.in-Ok.h _ (header-found a.file.now c.in-Ok.h _ c.in-Ok.ensures) _ c.stands_for-from.ensures _ (sym c.in-Err.ensures)) _ refl _ refl
