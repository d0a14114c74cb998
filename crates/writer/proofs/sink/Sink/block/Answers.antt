-- `block`: the block header, and then the payload.
use Prim.Native.Nat.{◌+◌, ◌-◌}
use mathlib.Core.Path.{◌≡◌, refl}
use native.Mathlib.Omega.{arith}
use Rattle.octets.proofs.Parts.{part-long}
use Rattle.block.specs.Spelling.{block_header_out}
use Rattle.block.proofs.BlockHeadersOut.{block_header_out-length}
use Rattle.writer.proofs.Storing.{stored_both}
use Rattle.writer.proofs.sink.Sink.block.Goals as goal

pub returns : goal.returns
returns c =
    let a = c.args in
    let n : a.r.payload + a.r.len - a.r.payload ≡ a.r.len = omega arith in
    let long = part-long a.source.now a.r.payload a.r.len c.requires.inside in
    stored_both _ _ _ (block_header_out a.h a.r) _ (block_header_out-length a.h a.r) refl c.block_header.ensures (rw long at (rw n at c.bytes.ensures))
