-- `strings`: the strings that are left are read from where the loop stands, as the tree reads them from its start.
use mathlib.Core.Path.{sym, ◌∙◌, ap}
use Rattle.octets.specs.Cursor.{moved}
use Rattle.octets.proofs.Results.{handed_on}
use Rattle.dna.specs.Catalogue.{text}
use Rattle.dna.proofs.Counting.{place_read, place-stops, turn, turn-stops, turn_last}
use Rattle.dna.proofs.dna.strings.Goals as goal

pub returns-in_err-here : goal.returns-in_err-here
returns-in_err-here c =
    let a = c.args in
    ap moved (handed_on _ _ c.from_residual.ensures.1) ∙ turn-stops text a.s.now a.n c.loop.counter _ c.loop-test.true _ (place-stops a.s.now _ _ c.in_err-here.ensures) ∙ sym c.loop.invariant

pub loop-preserved : goal.loop-preserved
loop-preserved c =
    let a = c.args in
    c.loop.invariant ∙ turn text a.s.now a.n c.loop.counter _ c.loop-test.true _ _ (place_read a.s.now _ _ _ c.in_ok-here.ensures)

pub returns : goal.returns
returns c = turn_last text c.args.s.now c.args.n c.loop.counter _ c.loop-test.false ∙ sym c.loop.invariant
