-- `room_for`: the four tests in order.
use Rattle.dna.specs.Catalogue.{rooms}
use Rattle.dna.proofs.Answers.{names-short, types-short, structs-short, fields-short}
use Rattle.dna.proofs.dna.room_for.Goals as goal

pub returns-then-names-n : goal.returns-then-names-n
returns-then-names-n c =
    let a = c.args in
    names-short a.n (rooms a.names a.types a.structs a.fields) c.if-names-n.true

pub returns-then-types-n : goal.returns-then-types-n
returns-then-types-n c =
    let a = c.args in
    types-short a.n (rooms a.names a.types a.structs a.fields) c.if-names-n.false c.if-types-n.true

pub returns-then-structs-n : goal.returns-then-structs-n
returns-then-structs-n c =
    let a = c.args in
    structs-short a.n (rooms a.names a.types a.structs a.fields) c.if-names-n.false c.if-types-n.false c.if-structs-n.true

pub returns-then-fields-n : goal.returns-then-fields-n
returns-then-fields-n c =
    let a = c.args in
    fields-short a.n (rooms a.names a.types a.structs a.fields) c.if-names-n.false c.if-types-n.false c.if-structs-n.false c.if-fields-n.true
