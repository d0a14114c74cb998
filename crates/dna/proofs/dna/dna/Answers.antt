-- `dna`: refused, every table is as it was; accepted, each table has the rows that its filling wrote.
use mathlib.Core.Path.{◌∙◌}
use Rattle.octets.specs.Reader.{run}
use Rattle.octets.proofs.Results.{handed_on}
use Rattle.dna.specs.Catalogue.{catalogue}
use Rattle.dna.proofs.Answers.{answered_so, names-room, types-room, structs-room, fields-room, kept_so, stopped_so, filled_so}
use Rattle.dna.proofs.dna.dna.Goals as goal

pub returns-in_err-l : goal.returns-in_err-l
returns-in_err-l c =
    let a = c.args in
    rw (handed_on _ _ c.from_residual.ensures.1) (stopped_so (run (catalogue a.endianness) a.payload.now 0) _ a.names.now a.types.now a.structs.now a.fields.now c.in_err-l.ensures)

pub returns-in_err-room_for : goal.returns-in_err-room_for
returns-in_err-room_for c =
    let a = c.args in
    let o = run (catalogue a.endianness) a.payload.now 0 in
    rw (handed_on _ _ c.from_residual-in_err-room_for.ensures.1)
    (kept_so o _ a.names.now a.types.now a.structs.now a.fields.now ((rw c.counts-n.ensures at c.in_err-room_for.ensures) ∙ answered_so a.endianness a.payload.now _ o c.in_ok-l.ensures _))

pub fill_names-requires : goal.fill_names-requires
fill_names-requires c =
    let a = c.args in
    names-room a.endianness a.payload.now _ (run (catalogue a.endianness) a.payload.now 0) c.in_ok-l.ensures _ _ _ _ (rw c.counts-n.ensures at c.in_ok-room_for.ensures)

pub fill_types-requires : goal.fill_types-requires
fill_types-requires c =
    let a = c.args in
    types-room a.endianness a.payload.now _ (run (catalogue a.endianness) a.payload.now 0) c.in_ok-l.ensures _ _ _ _ (rw c.counts-n.ensures at c.in_ok-room_for.ensures)

pub fill_structs-requires : goal.fill_structs-requires
fill_structs-requires c =
    let a = c.args in
    structs-room a.endianness a.payload.now _ (run (catalogue a.endianness) a.payload.now 0) c.in_ok-l.ensures _ _ _ _ (rw c.counts-n.ensures at c.in_ok-room_for.ensures)

pub fill_fields-requires : goal.fill_fields-requires
fill_fields-requires c =
    let a = c.args in
    fields-room a.endianness a.payload.now _ (run (catalogue a.endianness) a.payload.now 0) c.in_ok-l.ensures _ _ _ _ (rw c.counts-n.ensures at c.in_ok-room_for.ensures)

pub returns : goal.returns
returns c =
    let a = c.args in
    rw c.counts-n.ensures
    (filled_so a.endianness a.payload.now _ (run (catalogue a.endianness) a.payload.now 0) c.in_ok-l.ensures a.names.now a.types.now a.structs.now a.fields.now _ _ _ _ (rw c.counts-n.ensures at c.in_ok-room_for.ensures) c.fill_names.ensures c.fill_types.ensures c.fill_structs.ensures c.fill_fields.ensures)
