-- `judge`: the address, the payload, and then the code.
use Rattle.octets.proofs.Parts.{skip-room, skip-short}
use Rattle.writable.proofs.Judging.{null-judged, outside-judged, inside-judged}
use Rattle.writable.proofs.writable.judge.Goals as goal

pub returns-then-r-eq0 : goal.returns-then-r-eq0
returns-then-r-eq0 c =
    let a = c.args in
    null-judged a.order a.source.now a.r c.if-r-eq0.true

pub returns-in-Err : goal.returns-in-Err
returns-in-Err c =
    let a = c.args in
    let g = skip-short a.r.len a.source.now a.r.payload _ c.in-Err.ensures in
    outside-judged a.order a.source.now a.r c.if-r-eq0.false g.1

pub returns-in-Ok : goal.returns-in-Ok
returns-in-Ok c =
    let a = c.args in
    let g = skip-room a.r.len a.source.now a.r.payload _ c.in-Ok.ensures in
    inside-judged a.order a.source.now a.r c.if-r-eq0.false g.1 _ c.part.ensures _ c.judge_code.ensures
