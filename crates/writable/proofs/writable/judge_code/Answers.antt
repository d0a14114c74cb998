-- `judge_code`: by what follows from the kind.
use mathlib.Core.Path.{◌∙◌}
use Rattle.octets.proofs.Results.{handed_on}
use Rattle.block.proofs.Lossless.{whole_kind}
use Rattle.writable.proofs.Judging.{never_judged, alone_judged, alone_refused, always_other, dna-judged, dna-refused}
use Rattle.writable.proofs.writable.judge_code.Goals as goal

pub returns-in-Never : goal.returns-in-Never
returns-in-Never c =
    let a = c.args in
    never_judged a.order a.code a.count a.part.now _ (whole_kind c.of_code.result _ c.of_code.ensures) _ c.about-about.ensures c.in-Never.is

pub returns-then-count-eq1 : goal.returns-then-count-eq1
returns-then-count-eq1 c =
    let a = c.args in
    alone_judged a.order a.code a.count a.part.now _ (whole_kind c.of_code.result _ c.of_code.ensures) _ c.about-about.ensures c.in-Alone.is c.if-count-eq1.true

pub returns-else-count-eq1 : goal.returns-else-count-eq1
returns-else-count-eq1 c =
    let a = c.args in
    alone_refused a.order a.code a.count a.part.now _ (whole_kind c.of_code.result _ c.of_code.ensures) _ c.about-about.ensures c.in-Alone.is c.if-count-eq1.false

pub returns-in_ok-n-in-Always : goal.returns-in_ok-n-in-Always
returns-in_ok-n-in-Always c =
    let a = c.args in
    dna-judged a.order a.code a.count a.part.now _ (whole_kind c.of_code.result _ c.of_code.ensures) _ c.about-about.ensures c.in-Always.is c.if-about.true _ c.dna_counts.ensures _ _ c.in_ok-n-in-Always.was

pub returns-in_err-n-in-Always : goal.returns-in_err-n-in-Always
returns-in_err-n-in-Always c =
    let a = c.args in
    handed_on _ _ c.from_residual.ensures.1
    ∙ dna-refused a.order a.code a.count a.part.now _ (whole_kind c.of_code.result _ c.of_code.ensures) _ c.about-about.ensures c.in-Always.is c.if-about.true _ c.dna_counts.ensures _ c.in_err-n-in-Always.was

pub returns-else-about : goal.returns-else-about
returns-else-about c =
    let a = c.args in
    always_other a.order a.code a.count a.part.now _ (whole_kind c.of_code.result _ c.of_code.ensures) _ c.about-about.ensures c.in-Always.is c.if-about.false
