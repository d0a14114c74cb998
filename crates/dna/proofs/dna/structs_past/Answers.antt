-- `structs_past`: as `strings`, with structs, and with the sum of their counts. The sum is below the payload's length, so it fits.
use mathlib.Core.Path.{sym, ◌∙◌, ap}
use native.Mathlib.Omega.{arith}
use Rattle.octets.specs.Cursor.{found}
use Rattle.octets.proofs.Results.{handed_on}
use Rattle.dna.proofs.Counting.{total_more, total_stops, total_last}
use Rattle.dna.proofs.dna.structs_past.Goals as goal

pub loop-preserved : goal.loop-preserved
loop-preserved c =
    let a = c.args in
    let l = c.loop in
    let w = c.in_ok-count.ensures in
    (l.invariant.0 ∙ total_more a.e a.s.now a.n l.counter _ _ c.loop-test.true _ _ _ w.0, omega (arith, w.1, l.invariant.1))

pub returns-in_err-count : goal.returns-in_err-count
returns-in_err-count c =
    let a = c.args in
    ap found (handed_on _ _ c.from_residual.ensures.1) ∙ total_stops a.e a.s.now a.n c.loop.counter _ _ c.loop-test.true _ c.in_err-count.ensures ∙ sym c.loop.invariant.0

pub returns : goal.returns
returns c =
    let a = c.args in
    total_last a.e a.s.now a.n c.loop.counter _ _ c.loop-test.false ∙ sym c.loop.invariant.0
