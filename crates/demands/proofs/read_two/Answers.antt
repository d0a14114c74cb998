-- `read_two`: what `blend` answers of both files, with the demand that it meets.
use Rattle.demands.proofs.Unaltered.{no_other_object}
use Rattle.demands.proofs.read_two.Goals as goal

pub returns : goal.returns
returns c =
    let a = c.args in
    let p = c.blend-a in
    let q = c.blend-b in
    let w = no_other_object a.one.now a.first.now p.new.table p.result p.ensures a.other.now a.second.now q.new.table q.result q.ensures in
    (p.ensures, q.ensures, w)
