-- `new_form`: its four numbers, one after the other.
use Prim.Native.Nat.{◌+◌}
use native.Mathlib.Omega.{arith}
use Rattle.octets.specs.declared.Endianness.TheVariants.{Little}
use Rattle.octets.specs.PointerSize.{pointer_bytes}
use Rattle.writer.proofs.Storing.{stored-none, stored-number}
use Rattle.writer.proofs.sink.Sink.new_form.Goals as goal

pub returns : goal.returns
returns c =
    let a = c.args in
    let count = stored-number Little 8 a.r.count 0 8 _ (omega arith) c.eight-2.ensures (stored-none _) in
    let len = stored-number Little 8 a.r.len 8 16 _ (omega arith) c.eight.ensures count in
    let address = stored-number a.order (pointer_bytes a.size) a.r.address 16 (16 + pointer_bytes a.size) _ (omega arith) c.address.ensures len in
    stored-number Little 4 a.r.index (16 + pointer_bytes a.size) _ _ (omega arith) c.four.ensures address
