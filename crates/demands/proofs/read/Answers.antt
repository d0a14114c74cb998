-- `read`: what `blend` answers, with the demand that it meets.
use Rattle.demands.proofs.Cover.{every-block}
use Rattle.demands.proofs.read.Goals as goal

pub returns : goal.returns
returns c =
    let a = c.args in
    let b = c.blend in
    (b.ensures, every-block a.file.now a.table.now b.new.table b.result b.ensures)
