-- `sizes`: the mark, the sizes, and the padding over their bytes: 2 bytes each.
use mathlib.Core.Path.{◌∙◌}
use Rattle.octets.proofs.Results.{handed_on}
use Rattle.dna.specs.Catalogue.{size}
use Rattle.dna.proofs.Counting.{all-many, all_after, no_tlen, sizes_stop, sizes-padding-stops, sizes-read}
use Rattle.dna.proofs.Shorts.{sizes-reach}
use Rattle.dna.proofs.dna.sizes.Goals as goal

pub returns-in_err-start : goal.returns-in_err-start
returns-in_err-start c =
    let a = c.args in
    rw (handed_on _ _ c.from_residual.ensures.1) (no_tlen a.e a.s.now _ _ _ c.in_err-start.ensures)

pub returns-in_err-end : goal.returns-in_err-end
returns-in_err-end c =
    let a = c.args in
    rw (handed_on _ _ c.from_residual-in_err-end.ensures.1) (sizes_stop a.e a.s.now _ _ _ c.in_ok-start.ensures _ (c.in_err-end.ensures ∙ sizes-reach a.s.now a.e _ _))

pub overflow_sub-end : goal.overflow_sub-end
overflow_sub-end c =
    let a = c.args in
    all_after (size a.e) a.s.now _ _ _ (c.in_ok-end.ensures ∙ sizes-reach a.s.now a.e _ _)

pub returns-in_err-padded : goal.returns-in_err-padded
returns-in_err-padded c =
    let a = c.args in
    rw (handed_on _ _ c.from_residual-in_err-padded.ensures.1) (sizes-padding-stops a.e a.s.now _ _ _ c.in_ok-start.ensures _ (c.in_ok-end.ensures ∙ sizes-reach a.s.now a.e _ _) _ c.padding.ensures _ c.in_err-padded.ensures)

pub returns : goal.returns
returns c =
    let a = c.args in
    let h = c.in_ok-end.ensures ∙ sizes-reach a.s.now a.e _ _ in
    (sizes-read a.e a.s.now _ _ _ c.in_ok-start.ensures _ h _ c.padding.ensures _ c.in_ok-padded.ensures, all-many (size a.e) a.s.now _ _ _ h)
