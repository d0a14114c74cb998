-- `one_group` reads the group at the front, by its two brackets and its content.
use mathlib.Core.Path.{sym, ◌∙◌}
use Rattle.octets.proofs.Results.{handed_on}
use Rattle.field.proofs.Dimensions.{no_bracket, no_end, is_group, is_bad}
use Rattle.field.proofs.field.one_group.Goals as goal

pub returns-then-not-stands_at : goal.returns-then-not-stands_at
returns-then-not-stands_at c = no_bracket c.args.l.now (sym c.stands_at.ensures ∙ c.if-not-stands_at.true)

pub returns-then-l-end : goal.returns-then-l-end
returns-then-l-end c =
    let l = c.args.l.now in
    no_end l (sym c.stands_at.ensures ∙ c.if-not-stands_at.false) (rw c.first-end.ensures at c.if-l-end.true)

pub returns-in_err-d : goal.returns-in_err-d
returns-in_err-d c =
    let l = c.args.l.now in
    handed_on _ _ c.from_residual.ensures.1
    ∙ is_bad l (sym c.stands_at.ensures ∙ c.if-not-stands_at.false) (rw c.first-end.ensures at c.if-l-end.false) _ _ c.first-end.ensures c.in_err-d.ensures

pub returns : goal.returns
returns c =
    let l = c.args.l.now in
    is_group l (sym c.stands_at.ensures ∙ c.if-not-stands_at.false) (rw c.first-end.ensures at c.if-l-end.false) _ _ c.first-end.ensures c.in_ok-d.ensures
