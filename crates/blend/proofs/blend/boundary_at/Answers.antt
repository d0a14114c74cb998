-- `boundary_at`: the mark, or a block.
use mathlib.Core.Path.{sym, ◌∙◌}
use native.Mathlib.Omega.{arith}
use Rattle.octets.proofs.Results.{handed_on}
use Rattle.blend.proofs.Rows.{row_lies, end_mark_lem, boundary_stops, boundary_block}
use Rattle.blend.proofs.blend.boundary_at.Goals as goal

pub returns-then-stands_at : goal.returns-then-stands_at
returns-then-stands_at c =
    let a = c.args in
    end_mark_lem a.h a.s.now a.at (sym c.stands_at.ensures ∙ c.if-stands_at.true)

pub returns-in_err-r : goal.returns-in_err-r
returns-in_err-r c =
    let a = c.args in
    handed_on _ _ c.from_residual.ensures.1 ∙ boundary_stops a.h a.s.now a.at (sym c.stands_at.ensures ∙ c.if-stands_at.false) _ c.in_err-r.ensures

pub finished-requires : goal.finished-requires
finished-requires c =
    let a = c.args in
    let w = row_lies a.h a.s.now a.at _ _ (sym c.in_ok-r.ensures) in
    omega (arith, w.payload, w.inside)

pub returns : goal.returns
returns c =
    let a = c.args in
    c.finished.ensures ∙ boundary_block a.h a.s.now a.at (sym c.stands_at.ensures ∙ c.if-stands_at.false) _ _ c.in_ok-r.ensures
