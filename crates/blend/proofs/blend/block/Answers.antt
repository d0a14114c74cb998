-- `block`: the header, the payload, and the code.
use mathlib.Core.Path.{refl, ◌∙◌, ap}
use native.Mathlib.Omega.{arith}
use Rattle.blend.specs.Helpers.{row_read}
use Rattle.octets.proofs.Results.{handed_on}
use Rattle.blend.proofs.Rows.{row-no_header, row-no-payload, payload-fits, row-refused, row_read_lem}
use Rattle.block.proofs.Lossless.{whole_kind}
use Rattle.block.specs.declared.About.{About}
use Rattle.blend.specs.Blocks.{taken_by}
use Rattle.blend.proofs.blend.block.Goals as goal

pub returns-in_err-b : goal.returns-in_err-b
returns-in_err-b c =
    let a = c.args in
    ap row_read (handed_on _ _ c.from_residual.ensures.1) ∙ row-no_header a.h a.s.now _ _ c.in_err-b.ensures

pub returns-in_err-next : goal.returns-in_err-next
returns-in_err-next c =
    let a = c.args in
    ap row_read (handed_on _ _ c.from_residual-in_err-next.ensures.1) ∙ row-no-payload a.h a.s.now _ _ _ c.in_ok-b.ensures _ c.in_err-next.ensures

pub returns-in_err-taken : goal.returns-in_err-taken
returns-in_err-taken c =
    let a = c.args in
    ap row_read (handed_on _ _ c.from_residual-in_err-taken.ensures.1)
    ∙ row-refused a.h a.s.now _ _ _ c.in_ok-b.ensures _ c.in_ok-next.ensures _ (whole_kind c.of_code.result _ c.of_code.ensures) _ (c.in_err-taken.ensures ∙ ap (λ (x : About). taken_by x.takes c.in_ok-b.b.count) c.about.ensures)

pub overflow_add-payload : goal.overflow_add-payload
overflow_add-payload c =
    let a = c.args in
    omega (arith, payload-fits a.h a.s.now _ _ _ c.in_ok-b.ensures _ c.in_ok-next.ensures, c.block_header_len.ensures.fact, c.well_formed)

pub returns : goal.returns
returns c =
    let a = c.args in
    row_read_lem a.h a.s.now _ _ _ c.in_ok-b.ensures _ c.in_ok-next.ensures _ (whole_kind c.of_code.result _ c.of_code.ensures) (c.in_ok-taken.ensures ∙ ap (λ (x : About). taken_by x.takes c.in_ok-b.b.count) c.about.ensures) _ (c.row_of.ensures ∙ rw c.block_header_len.ensures.fact refl)
