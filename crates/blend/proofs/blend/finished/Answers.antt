-- `finished`: a DNA1's catalogue, read on the payload.
use mathlib.Core.Path.{ap}
use native.Mathlib.Omega.{arith}
use Rattle.octets.proofs.Parts.{slice-same, slice-long}
use Rattle.blend.proofs.Rows.{other_finished, dna-finished, dna-stopped, dna-placed}
use Rattle.block.proofs.Lossless.{whole_kind}
use Rattle.block.specs.declared.About.{About}
use Rattle.blend.proofs.blend.finished.Goals as goal

pub within-requires : goal.within-requires
within-requires c =
    let a = c.args in
    (omega (arith, c.requires), dna-placed a.h a.s.now a.r a.next _ (whole_kind c.of_code.result _ c.of_code.ensures) _ (ap (λ (x : About). x.dna) c.about.ensures) c.if-about.true _ (slice-same a.s.now a.r.payload a.r.len) _ c.dna_counts.ensures _ c.in-Err.is _ (slice-long a.s.now a.r.payload a.r.len c.requires))

pub returns-in-Ok : goal.returns-in-Ok
returns-in-Ok c =
    let a = c.args in
    dna-finished a.h a.s.now a.r a.next _ (whole_kind c.of_code.result _ c.of_code.ensures) _ (ap (λ (x : About). x.dna) c.about.ensures) c.if-about.true _ (slice-same a.s.now a.r.payload a.r.len) _ c.dna_counts.ensures _ _ c.in-Ok.is

pub returns-in-Err : goal.returns-in-Err
returns-in-Err c =
    let a = c.args in
    dna-stopped a.h a.s.now a.r a.next _ (whole_kind c.of_code.result _ c.of_code.ensures) _ (ap (λ (x : About). x.dna) c.about.ensures) c.if-about.true _ (slice-same a.s.now a.r.payload a.r.len) _ c.dna_counts.ensures _ c.in-Err.is _ c.within.ensures

pub returns-else-about : goal.returns-else-about
returns-else-about c =
    let a = c.args in
    other_finished a.h a.s.now a.r a.next _ (whole_kind c.of_code.result _ c.of_code.ensures) _ (ap (λ (x : About). x.dna) c.about.ensures) c.if-about.false
