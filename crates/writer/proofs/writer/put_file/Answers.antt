-- `put_file`: the header, the blocks and the end mark.
use Prim.Native.Nat.{◌+◌}
use mathlib.Core.List.{◌++◌}
use mathlib.Core.Path.{◌≡◌, refl, sym}
use native.Mathlib.Omega.{arith}
use Rattle.std.proofs.Common.{rules}
use lib.ListN.{length, length-append}
use Rattle.octets.specs.Ascii.{ascii}
use Rattle.header.specs.Header.{header_length}
use Rattle.header.specs.HeaderOut.{header_out}
use Rattle.header.proofs.HeadersOut.{header_out-length}
use Rattle.block.specs.Rows.{rows_spelt}
use Rattle.writer.specs.Writer.{blocks_out, file_out}
use Rattle.writer.proofs.Storing.{stored_both}
use Rattle.writer.proofs.Files.{file-parts}
use Rattle.writer.proofs.writer.put_file.Goals as goal

pub header-requires : goal.header-requires
header-requires c =
    let a = c.args in
    omega (arith, file-parts a.h a.source.now (rows_spelt a.rows.table.now a.rows.n 0), c.requires.room)

pub blocks-requires : goal.blocks-requires
blocks-requires c =
    let a = c.args in
    let p = c.header.ensures in
    record { inside = c.requires.inside; room = omega (arith, file-parts a.h a.source.now (rows_spelt a.rows.table.now a.rows.n 0), c.requires.room, p.at_after, p.long) }

pub bytes-requires : goal.bytes-requires
bytes-requires c =
    let a = c.args in
    let p = c.header.ensures in
    let q = c.blocks-2.ensures in
    omega (arith, file-parts a.h a.source.now (rows_spelt a.rows.table.now a.rows.n 0), c.requires.room, p.at_after, p.long, q.at_after, q.long)

pub returns : goal.returns
unfolding file_out
returns c =
    let a = c.args in
    let b = blocks_out a.h a.source.now (rows_spelt a.rows.table.now a.rows.n 0) in
    let both = stored_both _ _ _ (header_out a.h) b (header_out-length a.h) refl c.header.ensures c.blocks-2.ensures in
    let long : length (header_out a.h ++ b) ≡ header_length a.h.format + length b = omega (arith, length-append (header_out a.h) b, header_out-length a.h) in
    let all = stored_both _ _ _ (header_out a.h ++ b) (ascii "ENDB") long refl both c.bytes.ensures in
    let same = sym all.same_reference in
    let after = all.out_after in
    search rules
