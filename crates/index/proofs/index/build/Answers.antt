-- `build`: all is there, and the rows are chained; or nothing is written.
use Rattle.index.proofs.Room.{room-there}
use Rattle.index.proofs.Answers.{builds}
use Rattle.index.proofs.index.build.Goals as goal

pub returns : goal.returns
returns c =
    let a = c.args in
    builds a.table.now a.rows a.buckets a.heads.now a.links.now (room-there _ _ _ _ _ c.in_ok-room_for.ensures) _ _ _ c.clear.ensures c.chain_rows.ensures
