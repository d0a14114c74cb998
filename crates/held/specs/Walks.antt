-- A walk by a walker that holds its file, from where it stands: these rows, one after another, and then the stop. After a block the walker is moved to the place
-- that the step handed back.
use Rattle.std.specs.Prelude.{List, [], ◌∷◌}
use Rattle.block.specs.declared.Row.{Row}
use Rattle.walker.specs.declared.Place.{Place}
use Rattle.walker.specs.declared.Step.{Step}
use Rattle.walker.specs.Walker.{Stop, stopped}
use Rattle.held.specs.declared.Walker.{Walker}
use Rattle.held.specs.Calls.{«next», «moved»}

abbrev pub HeldWalk : Walker → List Row → Stop → Type 0
HeldWalk w [] stop = «next» w (stopped stop w.place)
HeldWalk w (r ∷ rs) stop = (q : Place) × (v : Walker) × «next» w (Step.Block r q) × «moved» w q v × HeldWalk v rs stop
