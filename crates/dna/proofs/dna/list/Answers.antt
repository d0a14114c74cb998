-- `list`: the mark, the count, as many strings, and the padding over all their bytes.
use mathlib.Core.Path.{◌∙◌}
use Rattle.octets.proofs.Results.{handed_on}
use Rattle.dna.specs.Catalogue.{text}
use Rattle.dna.proofs.Counting.{all-many, all_after, listed-stops, no-count, listed-on, strings_stop, padding-stops, padding-read}
use Rattle.dna.proofs.dna.list.Goals as goal

pub returns-in_err-mark : goal.returns-in_err-mark
returns-in_err-mark c =
    let a = c.args in
    rw (handed_on _ _ c.from_residual.ensures.1) (listed-stops a.e a.mark.now a.s.now _ _ c.in_err-mark.ensures)

pub returns-in_err-count : goal.returns-in_err-count
returns-in_err-count c =
    let a = c.args in
    rw (handed_on _ _ c.from_residual-in_err-count.ensures.1) (no-count a.e a.mark.now a.s.now _ _ c.in_ok-mark.ensures _ c.in_err-count.ensures)

pub returns-in_err-end : goal.returns-in_err-end
returns-in_err-end c =
    let a = c.args in
    rw (handed_on _ _ c.from_residual-in_err-end.ensures.1) (listed-on a.e a.mark.now a.s.now _ _ c.in_ok-mark.ensures _ _ c.in_ok-count.ensures ∙ strings_stop a.s.now _ _ _ c.in_err-end.ensures)

pub overflow_sub-end : goal.overflow_sub-end
overflow_sub-end c = all_after text c.args.s.now _ _ _ c.in_ok-end.ensures

pub returns-in_err-padded : goal.returns-in_err-padded
returns-in_err-padded c =
    let a = c.args in
    rw (handed_on _ _ c.from_residual-in_err-padded.ensures.1) (listed-on a.e a.mark.now a.s.now _ _ c.in_ok-mark.ensures _ _ c.in_ok-count.ensures ∙ padding-stops a.s.now _ _ _ c.in_ok-end.ensures _ c.padding.ensures _ c.in_err-padded.ensures)

pub returns : goal.returns
returns c =
    let a = c.args in
    (listed-on a.e a.mark.now a.s.now _ _ c.in_ok-mark.ensures _ _ c.in_ok-count.ensures ∙ padding-read a.s.now _ _ _ c.in_ok-end.ensures _ c.padding.ensures _ c.in_ok-padded.ensures, all-many text a.s.now _ _ _ c.in_ok-end.ensures)
