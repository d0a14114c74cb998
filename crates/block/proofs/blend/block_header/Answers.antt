-- `block_header`: all of it is there, or it is read number by number up to what stops it.
use mathlib.Core.Path.{◌∙◌, ap}
use lib.ListN.{length}
use Rattle.block.proofs.There.{header-complete, header-taken, header-not_there}
use Rattle.block.proofs.blend.block_header.Goals as goal

pub invariant_of-says : goal.invariant_of-says
invariant_of-says c =
    let a = c.args in
    record { complete = ap length c.part-part.ensures ∙ header-complete a.h a.s.now a.c.at _ c.block_header_len-len.ensures.fact _ c.in-Ok.ensures }

pub missing-requires : goal.missing-requires
missing-requires c =
    let a = c.args in
    header-not_there a.h a.s.now a.c.at _ c.block_header_len-len.ensures.fact _ c.in-Err.ensures

pub returns-in-Ok : goal.returns-in-Ok
returns-in-Ok c =
    let a = c.args in
    c.with_address.ensures ∙ header-taken a.h a.s.now a.c.at _ c.block_header_len-len.ensures.fact _ c.in-Ok.ensures _ (rw c.part-part.ensures at c.says.ensures)
