-- `number`: its bytes are there, so it is read.
use Rattle.block.proofs.There.{number-ok, number-is}
use Rattle.block.proofs.blend.Whole.number.Goals as goal

pub unwrap-n-requires : goal.unwrap-n-requires
unwrap-n-requires c =
    let a = c.args in
    number-ok a.order _ a.self.now.part.now a.at c.requires _ (rw c.new.ensures at c.number.ensures)

pub returns : goal.returns
returns c =
    let a = c.args in
    number-is a.order _ a.self.now.part.now a.at c.requires _ (rw c.new.ensures at c.number.ensures) _ c.unwrap-n.ensures
