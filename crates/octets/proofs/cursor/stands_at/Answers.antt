-- `stands_at` says whether a mark stands at a place: an empty one always, another where there is room and the bytes are the same.
use Rattle.octets.proofs.Reading.{tight}
use Rattle.octets.proofs.Marks.{stands-cut, stands_by}
use Rattle.octets.proofs.cursor.stands_at.Goals as goal

pub returns-then-has : goal.returns-then-has
returns-then-has c =
    let a = c.args in
    stands_by a.s.now _ a.m.now _ c.same.ensures.0 c.same.ensures.1

pub returns-else-has : goal.returns-else-has
returns-else-has c =
    let a = c.args in
    stands-cut a.s.now _ a.m.now c.if-n-eq0.false (tight a.s.now _ _ c.has.ensures c.if-has.false)
