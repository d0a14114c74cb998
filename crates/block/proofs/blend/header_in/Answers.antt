-- `header_in`: as many bytes as a block header has, or not.
use mathlib.Core.Path.{sym, ◌∙◌}
use borrow.Author.Tests.{ne_eqb}
use Rattle.octets.proofs.Tests.{failed}
use Rattle.block.specs.BlockHeaders.{header_in}
use Rattle.block.proofs.There.{header-whole}
use Rattle.block.proofs.blend.header_in.Goals as goal

pub returns-then-part-block_header_len : goal.returns-then-part-block_header_len
returns-then-part-block_header_len c =
    let a = c.args in
    c.says.ensures ∙ sym (header-whole a.h a.part.now (c.if-part-block_header_len.true ∙ c.block_header_len.ensures.fact))

pub returns-else-part-block_header_len : goal.returns-else-part-block_header_len
unfolding header_in
returns-else-part-block_header_len c =
    c.new.ensures ∙ sym (failed _ _ (ne_eqb _ _ (λ e. c.if-part-block_header_len.false (e ∙ sym c.block_header_len.ensures.fact))))
