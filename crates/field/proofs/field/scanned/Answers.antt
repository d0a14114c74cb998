-- `scanned` tries a function pointer first.
use mathlib.Core.Path.{◌∙◌}
use Rattle.field.proofs.Told.{as_function, as_other}
use Rattle.field.proofs.field.scanned.Goals as goal

pub returns-in-Ok : goal.returns-in-Ok
returns-in-Ok c = as_function c.args.name.now _ c.in-Ok.ensures

pub returns-in-Err : goal.returns-in-Err
returns-in-Err c = c.pointer_or_value.ensures ∙ as_other c.args.name.now _ c.in-Err.ensures
