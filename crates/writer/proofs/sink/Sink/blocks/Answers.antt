-- `blocks`: a block a turn, up to the last row.
use Prim.Native.Nat.{◌+◌}
use mathlib.Core.Path.{◌≡◌, refl, ◌∙◌, subst}
use mathlib.Core.List.{List, ◌++◌}
use native.Mathlib.Omega.{arith}
use lib.ListN.{length}
use Rattle.octets.proofs.Filling.{Storing, storing_starts, storing_ends, storing_ends-at, row_fits_lem, row-stored}
use Rattle.block.specs.declared.Row.{Row}
use Rattle.block.specs.Rows.{payload_of, rows_spelt}
use Rattle.block.specs.Spelling.{block_header_out}
use Rattle.writable.proofs.Judging.{row_known, rows_all}
use Rattle.writer.specs.Helpers.{Inside}
use Rattle.writer.specs.Writer.{blocks_out}
use Rattle.writer.proofs.Files.{block-out-length, blocks_more, blocks-none, inside_more}
use Rattle.writer.proofs.sink.Sink.blocks.Goals as goal

pub loop-row-init : goal.loop-row-init
loop-row-init c =
    let a = c.args in
    let s = a.self.now in
    let t = a.rows.table.now in
    let out = blocks_out a.h a.source.now (rows_spelt t a.rows.n 0) in
    let all = rows_all t a.rows.n in
    record {
      same_reference = refl;
      storing = subst (λ (l : List Row). Storing s.out.now s.at out s.out.now s.at (blocks_out a.h a.source.now l)) all (storing_starts s.out.now s.at out c.requires.room);
      inside = subst (Inside a.source.now) all c.requires.inside;
    }

pub block-requires : goal.block-requires
block-requires c =
    let a = c.args in
    let l = c.loop-row in
    let t = c.loop-row-test.true in
    let r = c.row_at.result in
    let g = row_known a.rows.table.now l.row r c.row_at.ensures (omega arith) in
    let i = inside_more a.h a.source.now a.rows.table.now a.rows.n l.row t r g l.invariant.inside in
    let w = row_fits_lem _ _ _ _ _ (block_header_out a.h r ++ payload_of a.source.now r) _ _ l.invariant.storing (blocks_more a.h a.source.now a.rows.table.now a.rows.n l.row t r g) in
    record { inside = i.0; room = omega (arith, w, block-out-length a.h a.source.now r i.0) }

pub loop-row-preserved : goal.loop-row-preserved
loop-row-preserved c =
    let a = c.args in
    let l = c.loop-row in
    let t = c.loop-row-test.true in
    let r = c.row_at.result in
    let g = row_known a.rows.table.now l.row r c.row_at.ensures (omega arith) in
    let i = inside_more a.h a.source.now a.rows.table.now a.rows.n l.row t r g l.invariant.inside in
    let p = c.block.ensures in
    let place : c.block.new.self.at ≡ l.self.at + length (block_header_out a.h r ++ payload_of a.source.now r) = omega (arith, p.at_after, block-out-length a.h a.source.now r i.0) in
    record {
      same_reference = p.same_reference ∙ l.invariant.same_reference;
      storing = row-stored _ _ _ _ _ (block_header_out a.h r ++ payload_of a.source.now r) _ _ l.invariant.storing (blocks_more a.h a.source.now a.rows.table.now a.rows.n l.row t r g) _ _ p.out_after place;
      inside = i.1;
    }

pub returns : goal.returns
returns c =
    let a = c.args in
    let l = c.loop-row in
    let none = blocks-none a.h a.source.now a.rows.table.now a.rows.n l.row c.loop-row-test.false in
    let s = l.invariant.storing in
    record {
      same_reference = l.invariant.same_reference;
      long = s.long;
      at_after = storing_ends-at _ _ _ _ _ _ s none;
      out_after = storing_ends _ _ _ _ _ _ s none;
    }
