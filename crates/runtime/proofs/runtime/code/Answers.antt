-- `code`: by the kind.
use mathlib.Core.Path.{sym, ◌∙◌, ap}
use Rattle.octets.proofs.Tests.{held, failed}
use Rattle.runtime.specs.Addresses.{has_code, code_as}
use Rattle.block.specs.declared.About.{About}
use Rattle.block.specs.Kinds.{kind_of}
use Rattle.block.proofs.Lossless.{whole_kind}
use Rattle.runtime.proofs.runtime.code.Goals as goal

pub returns-then-about : goal.returns-then-about
unfolding code_as
returns-then-about c = sym (held _ _ (sym (ap (λ (x : About). x.coded) c.about-about.ensures ∙ ap has_code (whole_kind c.of_code.result (kind_of c.args.number) c.of_code.ensures)) ∙ c.if-about.true))

pub returns-else-about : goal.returns-else-about
unfolding code_as
returns-else-about c = sym (failed _ _ (sym (ap (λ (x : About). x.coded) c.about-about.ensures ∙ ap has_code (whole_kind c.of_code.result (kind_of c.args.number) c.of_code.ensures)) ∙ c.if-about.false))
