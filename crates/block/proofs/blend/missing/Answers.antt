-- `missing`: each number in turn, by the laws of a block header's layout.
use mathlib.Core.Path.{◌∙◌, ap}
use Rattle.octets.specs.Cursor.{found}
use Rattle.octets.proofs.Results.{handed_on}
use Rattle.block.proofs.Layouts.{code-missing, first-number-missing, address-missing, address-null, rest_stopped, rest_cut}
use Rattle.block.proofs.blend.missing.Goals as goal

pub returns-in_err-first : goal.returns-in_err-first
returns-in_err-first c =
    let a = c.args in
    ap found (handed_on _ _ c.from_residual.ensures.1) ∙ code-missing a.h a.s.now a.c.at _ c.in_err-first.ensures

pub returns-in_err-address : goal.returns-in_err-address
returns-in_err-address c =
    let a = c.args in
    ap found (handed_on _ _ c.from_residual-in_err-address.ensures.1) ∙ first-number-missing a.h a.s.now a.c.at _ c.in_ok-first.ensures _ c.in_err-address.ensures

pub returns-in_err-n : goal.returns-in_err-n
returns-in_err-n c =
    let a = c.args in
    ap found (handed_on _ _ c.from_residual-in_err-n.ensures.1) ∙ address-missing a.h a.s.now a.c.at _ c.in_ok-first.ensures _ c.in_ok-address.ensures _ c.address_width.ensures _ c.in_err-n.ensures

pub returns-then-n-eq0 : goal.returns-then-n-eq0
returns-then-n-eq0 c =
    let a = c.args in
    address-null a.h a.s.now a.c.at _ c.in_ok-first.ensures _ c.in_ok-address.ensures _ c.address_width.ensures _ _ c.in_ok-n.ensures c.if-n-eq0.true

pub returns-in_err-last : goal.returns-in_err-last
returns-in_err-last c =
    let a = c.args in
    ap found (handed_on _ _ c.from_residual-in_err-last.ensures.1) ∙ rest_stopped a.h a.s.now a.c.at _ c.in_ok-first.ensures _ c.in_ok-address.ensures _ c.address_width.ensures _ _ c.in_ok-n.ensures c.if-n-eq0.false _ c.last_width.ensures _ c.in_err-last.ensures

pub returns : goal.returns
returns c =
    let a = c.args in
    rest_cut a.h a.s.now a.c.at _ c.in_ok-first.ensures _ c.in_ok-address.ensures _ c.address_width.ensures _ _ c.in_ok-n.ensures c.if-n-eq0.false _ c.last_width.ensures _ c.in_ok-last.ensures c.requires
