-- `header`: the magic, the marks and then the version.
use mathlib.Core.Path.{refl}
use Rattle.header.specs.HeaderOut.{header_out}
use Rattle.writer.proofs.Storing.{stored_both}
use Rattle.writer.proofs.sink.Sink.header.Goals as goal
use Rattle.writer.proofs.sink.Sink.header.Goals.{in-Legacy, in-New}

pub returns : goal.returns
unfolding header_out
returns c =
    elim c.match-h.branch [
      | in-Legacy w ↦
          let marks = stored_both 2 3 5 _ _ refl refl w.bytes-in-Legacy.ensures (rw (w.self-is, w.in-Legacy.is) at c.version.ensures) in
          rw (w.in-Legacy.is, ← c.pointer_mark-pointer.ensures, ← c.order_mark-order.ensures) (stored_both 7 5 12 _ _ refl refl c.bytes.ensures marks)
      | in-New w ↦
          let marks = stored_both 6 4 10 _ _ refl refl w.bytes-in-New.ensures (rw (w.self-is, w.in-New.is) at c.version.ensures) in
          rw (w.in-New.is, ← c.pointer_mark-pointer.ensures, ← c.order_mark-order.ensures) (stored_both 7 10 17 _ _ refl refl c.bytes.ensures marks)
    ]
