-- `bytes`: what is stored, and the place after it.
use mathlib.Core.Path.{refl, ◌∙◌, ap}
use lib.ListN.{length}
use Rattle.octets.proofs.Filling.{put-length}
use Rattle.writer.proofs.sink.Sink.bytes.Goals as goal

pub returns : goal.returns
returns c =
    let s = c.args.self.now in
    let e = c.store.ensures in
    record { same_reference = refl; long = ap length e ∙ put-length s.out.now s.at c.args.part.now; at_after = refl; out_after = e }
