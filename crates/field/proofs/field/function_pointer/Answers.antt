-- `function_pointer`: the first mark, the name, and what follows it.
use mathlib.Core.Path.{sym, ◌∙◌}
use Rattle.octets.proofs.Results.{handed_on}
use Rattle.field.proofs.Scans.{no_opening, name_open, name-read}
use Rattle.field.proofs.field.function_pointer.Goals as goal

pub returns-in_err-from : goal.returns-in_err-from
returns-in_err-from c = handed_on _ _ c.from_residual.ensures.1 ∙ no_opening _ _ c.in_err-from.ensures

pub returns-in_err-len : goal.returns-in_err-len
returns-in_err-len c = handed_on _ _ c.from_residual-in_err-len.ensures.1 ∙ name_open _ _ c.in_ok-from.ensures _ c.in_err-len.ensures

pub returns : goal.returns
returns c = c.function_args.ensures ∙ sym (name-read _ _ c.in_ok-from.ensures _ _ c.in_ok-len.ensures)
