-- `ordered`: the order mark, and the version.
use mathlib.Core.Path.{◌∙◌, ap}
use Rattle.octets.specs.Cursor.{found}
use Rattle.octets.proofs.Results.{handed_on}
use Rattle.header.proofs.Headers.{read_same, made, no-order, order-made}
use Rattle.header.proofs.blend.ordered.Goals as goal

pub returns-in_err-order : goal.returns-in_err-order
returns-in_err-order c =
    let a = c.args in
    λ u. ap found (handed_on _ _ c.from_residual.ensures.1) ∙ no-order a.format a.size u a.s.now _ _ c.in_err-order.ensures

pub returns-in_err-v : goal.returns-in_err-v
returns-in_err-v c =
    let a = c.args in
    let k = rw c.version_len.ensures.fact at c.in_err-v.ensures in
    λ u. ap found (handed_on _ _ c.from_residual-in_err-v.ensures.1) ∙ ap (made a.format a.size _) k ∙ order-made a.format a.size u a.s.now _ _ _ c.in_ok-order.ensures

pub returns : goal.returns
returns c =
    let a = c.args in
    let k = rw c.version_len.ensures.fact at c.in_ok-v.ensures in
    λ u. read_same _ _ _ c.new.ensures ∙ ap (made a.format a.size _) k ∙ order-made a.format a.size u a.s.now _ _ _ c.in_ok-order.ensures
