-- `begins` goes past a mark where it stands, and stays where it does not.
use mathlib.Core.Path.{sym, ◌∙◌}
use Rattle.octets.proofs.Reading.{begun_in, begun-out}
use Rattle.octets.proofs.cursor.Cursor.begins.Goals as goal

pub returns-then-stands_at : goal.returns-then-stands_at
returns-then-stands_at c =
    let a = c.args in
    begun_in a.m.now a.s.now _ (sym c.stands_at.ensures ∙ c.if-stands_at.true)

pub returns-else-stands_at : goal.returns-else-stands_at
returns-else-stands_at c =
    let a = c.args in
    begun-out a.m.now a.s.now _ (sym c.stands_at.ensures ∙ c.if-stands_at.false)
