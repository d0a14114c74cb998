-- `legacy`: its four numbers, one after the other.
use Prim.Native.Nat.{◌+◌}
use native.Mathlib.Omega.{arith}
use Rattle.octets.specs.PointerSize.{pointer_bytes}
use Rattle.writer.proofs.Storing.{stored-none, stored-number}
use Rattle.writer.proofs.sink.Sink.legacy.Goals as goal

pub returns : goal.returns
returns c =
    let a = c.args in
    let count = stored-number a.order 4 a.r.count 0 4 _ (omega arith) c.four-3.ensures (stored-none _) in
    let index = stored-number a.order 4 a.r.index 4 8 _ (omega arith) c.four-2.ensures count in
    let address = stored-number a.order (pointer_bytes a.size) a.r.address 8 (8 + pointer_bytes a.size) _ (omega arith) c.address.ensures index in
    stored-number a.order 4 a.r.len (8 + pointer_bytes a.size) _ _ (omega arith) c.four.ensures address
