-- `pointer_or_value` finds the name and, where a bracket was met, the groups.
use mathlib.Core.Path.{◌∙◌}
use native.Mathlib.Omega.{arith}
use Rattle.octets.proofs.Results.{handed_on}
use Rattle.field.proofs.Scans.{end-le, plain_scan, bad_scan, span_le, array_scan}
use Rattle.field.proofs.field.pointer_or_value.Goals as goal

pub returns-then-end-name : goal.returns-then-end-name
returns-then-end-name c = rw c.onwards.ensures (plain_scan c.args.name.now _ _ c.stars-n.ensures c.first-end.ensures _ c.if-end-name.true c.plain_kind.ensures)

pub slice_bounds-array_dimensions-count : goal.slice_bounds-array_dimensions-count
slice_bounds-array_dimensions-count c = end-le c.args.name.now _ _ c.stars-n.ensures c.first-end.ensures

pub slice_bounds-array_dimensions-start : goal.slice_bounds-array_dimensions-start
slice_bounds-array_dimensions-start c = end-le c.args.name.now _ _ c.stars-n.ensures c.first-end.ensures

pub returns-in_err-groups : goal.returns-in_err-groups
returns-in_err-groups c =
    handed_on _ _ c.from_residual.ensures.1 ∙ bad_scan c.args.name.now _ _ c.stars-n.ensures c.first-end.ensures c.if-end-name.false _ c.in_err-groups.ensures

pub overflow_add-end : goal.overflow_add-end
overflow_add-end c = omega (arith, span_le c.args.name.now _ _ c.stars-n.ensures c.first-end.ensures c.if-end-name.false _ c.in_ok-groups.ensures)

pub onwards-rest-requires : goal.onwards-rest-requires
onwards-rest-requires c = span_le c.args.name.now _ _ c.stars-n.ensures c.first-end.ensures c.if-end-name.false _ c.in_ok-groups.ensures

pub returns : goal.returns
returns c = rw c.onwards-rest.ensures (array_scan c.args.name.now _ _ c.stars-n.ensures c.first-end.ensures c.if-end-name.false _ c.in_ok-groups.ensures)
