-- `find`: all is there, and a chain is followed; or it is refused.
use mathlib.Core.Path.{◌∙◌}
use Rattle.octets.proofs.Results.{handed_on}
use Rattle.index.proofs.Room.{room-there}
use Rattle.index.proofs.Answers.{finds-null, finds, finds_refused}
use Rattle.index.proofs.index.find.Goals as goal

pub returns-then-address-eq0 : goal.returns-then-address-eq0
returns-then-address-eq0 c =
    let a = c.args in
    finds-null a.table.now a.rows a.buckets a.heads.now a.links.now a.address (room-there _ _ _ _ _ c.in_ok-room_for.ensures) c.if-address-eq0.true

pub returns : goal.returns
returns c =
    let a = c.args in
    c.follow.ensures ∙ finds a.table.now a.rows a.buckets a.heads.now a.links.now a.address (room-there _ _ _ _ _ c.in_ok-room_for.ensures) c.if-address-eq0.false

pub returns-in_err-room_for : goal.returns-in_err-room_for
returns-in_err-room_for c =
    let a = c.args in
    rw (handed_on _ _ c.from_residual.ensures.1) (finds_refused a.table.now a.rows a.buckets a.heads.now a.links.now a.address _ c.in_err-room_for.ensures)
