-- `write`: what is needed, the room for it, and then the file.
use mathlib.Core.Path.{◌∙◌}
use native.Mathlib.Omega.{arith}
use Rattle.std.proofs.Common.{rules}
use Rattle.octets.proofs.Filling.{put-over}
use Rattle.block.specs.Rows.{rows_spelt}
use Rattle.writer.specs.Writer.{file_out}
use Rattle.writer.proofs.Files.{rows-there, rows_inside, file-long}
use Rattle.writer.proofs.writer.write.Goals as goal

pub invariant_of-put_file : goal.invariant_of-put_file
invariant_of-put_file c =
    let a = c.args in
    record { within = rows-there a.h a.table.now a.rows a.source.now _ c.in_ok-n.ensures }

pub put_file-requires : goal.put_file-requires
put_file-requires c =
    let a = c.args in
    let e = c.in_ok-n.ensures in
    record { inside = rows_inside a.h a.table.now a.rows a.source.now _ e; room = omega (arith, file-long a.h a.table.now a.rows a.source.now _ e, c.if-out-n.false) }

pub returns : goal.returns
returns c =
    let a = c.args in
    let e = c.in_ok-n.ensures in
    let out = file_out a.h a.source.now (rows_spelt a.table.now a.rows 0) in
    (search rules, c.put_file.ensures ∙ put-over a.out.now out (omega (arith, file-long a.h a.table.now a.rows a.source.now _ e, c.if-out-n.false)))
