-- `one_struct`: type number, count, and past the fields, whose number is the count.
use mathlib.Core.Path.{◌∙◌}
use Rattle.octets.proofs.Results.{handed_on}
use Rattle.dna.proofs.Counting.{struct-stops, struct-stops_later, struct-stops-fields, struct-headed}
use Rattle.dna.proofs.Shorts.{fields-reach, struct-ends, struct-within}
use Rattle.dna.proofs.dna.one_struct.Goals as goal

pub returns-in_err-kind : goal.returns-in_err-kind
returns-in_err-kind c =
    let a = c.args in
    rw (handed_on _ _ c.from_residual.ensures.1) (struct-stops a.e a.s.now a.c.at _ c.in_err-kind.ensures)

pub returns-in_err-n : goal.returns-in_err-n
returns-in_err-n c =
    let a = c.args in
    rw (handed_on _ _ c.from_residual-in_err-n.ensures.1) (struct-stops_later a.e a.s.now a.c.at _ _ c.in_ok-kind.ensures _ c.in_err-n.ensures)

pub returns-in_err-last : goal.returns-in_err-last
returns-in_err-last c =
    let a = c.args in
    rw (handed_on _ _ c.from_residual-in_err-last.ensures.1) (struct-stops-fields a.e a.s.now a.c.at _ _ c.in_ok-kind.ensures _ _ c.in_ok-n.ensures _ (c.in_err-last.ensures ∙ fields-reach a.s.now a.e _ _))

pub returns : goal.returns
returns c =
    let a = c.args in
    let g = c.in_ok-last.ensures ∙ fields-reach a.s.now a.e _ _ in
    (struct-headed a.e a.s.now a.c.at _ _ _ _ _ c.in_ok-kind.ensures c.in_ok-n.ensures g, struct-ends a.e a.s.now a.c.at _ _ _ _ _ c.in_ok-kind.ensures c.in_ok-n.ensures g, struct-within a.e a.s.now a.c.at _ _ _ _ _ c.in_ok-kind.ensures c.in_ok-n.ensures g)
