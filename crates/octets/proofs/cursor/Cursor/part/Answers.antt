-- `part` hands out the n bytes at the place, or none.
use Rattle.octets.proofs.Reading.{roomy, tight, part_in, part_out}
use Rattle.octets.proofs.cursor.Cursor.part.Goals as goal

pub returns-then-has : goal.returns-then-has
returns-then-has c =
    let a = c.args in
    part_in a.s.now _ _ (roomy a.s.now _ _ c.has.ensures c.if-has.true)

pub returns-else-has : goal.returns-else-has
returns-else-has c =
    let a = c.args in
    part_out a.s.now _ _ (tight a.s.now _ _ c.has.ensures c.if-has.false)
