-- `count_blocks`: what is counted and what is left make the whole.
use mathlib.Core.Path.{sym, ◌∙◌, ap}
use native.Mathlib.Omega.{arith}
use Rattle.std.specs.Prelude.{Ok}
use Rattle.octets.proofs.Results.{handed_on}
use Rattle.blend.specs.declared.blend.Pass.{Pass}
use Rattle.blend.proofs.Chains.{counting_starts, counting_ends, counting_stops, counting_more, block_moves, end-stops, mark-room}
use Rattle.blend.proofs.blend.count_blocks.Goals as goal

pub loop-pass-init : goal.loop-pass-init
loop-pass-init c = counting_starts c.args.h c.args.s.now c.args.from c.requires

pub ended-requires : goal.ended-requires
ended-requires c =
    let a = c.args in
    omega (arith, mark-room a.h a.s.now c.loop-pass.pass.at (sym c.in_ok-boundary_at.ensures ∙ ap Ok c.in-EndMark.is), c.well_formed)

pub returns-in-EndMark : goal.returns-in-EndMark
returns-in-EndMark c =
    let a = c.args in
    let p = c.loop-pass in
    c.ended.ensures ∙ counting_ends a.h a.s.now a.from p.pass p.invariant (sym c.in_ok-boundary_at.ensures ∙ ap Ok c.in-EndMark.is)

pub returns-in_err-boundary_at : goal.returns-in_err-boundary_at
returns-in_err-boundary_at c =
    let a = c.args in
    let p = c.loop-pass in
    handed_on _ _ c.from_residual.ensures.1 ∙ counting_stops a.h a.s.now a.from p.pass p.invariant _ (sym c.in_err-boundary_at.ensures)

pub passed-pass-requires : goal.passed-pass-requires
passed-pass-requires c =
    let p = c.loop-pass in
    omega (arith, p.invariant.few, c.loop-pass-test.true, c.well_formed)

pub loop-pass-smaller : goal.loop-pass-smaller
loop-pass-smaller c =
    let a = c.args in
    let p = c.loop-pass in
    let w = block_moves a.h a.s.now p.pass.at _ _ _ (sym c.in_ok-boundary_at.ensures ∙ ap Ok c.in-Block.is) in
    omega (arith, w, ap (λ (q : Pass). q.at) c.passed-pass.ensures)

pub loop-pass-preserved : goal.loop-pass-preserved
loop-pass-preserved c =
    let a = c.args in
    let p = c.loop-pass in
    counting_more a.h a.s.now a.from p.pass p.invariant _ _ _ (sym c.in_ok-boundary_at.ensures ∙ ap Ok c.in-Block.is) _ c.passed-pass.ensures

pub returns : goal.returns
returns c =
    let a = c.args in
    let p = c.loop-pass in
    counting_stops a.h a.s.now a.from p.pass p.invariant _ (end-stops a.h a.s.now p.pass.at c.loop-pass-test.false)
