-- `function_args`: the second mark, and the second part.
use mathlib.Core.Path.{◌∙◌}
use Rattle.octets.proofs.Results.{handed_on}
use Rattle.field.proofs.Scans.{args_stop, args_open, args_read, rest-inside}
use Rattle.field.proofs.field.function_args.Goals as goal

pub returns-in_err-args : goal.returns-in_err-args
returns-in_err-args c = handed_on _ _ c.from_residual.ensures.1 ∙ args_stop _ _ _ _ c.in_err-args.ensures

pub returns-in_err-next : goal.returns-in_err-next
returns-in_err-next c = handed_on _ _ c.from_residual-in_err-next.ensures.1 ∙ args_open _ _ _ _ c.in_ok-args.ensures _ c.in_err-next.ensures

pub onwards-requires : goal.onwards-requires
onwards-requires c = rest-inside _ _ _ _ _ c.in_ok-next.ensures

pub returns : goal.returns
returns c = rw c.onwards.ensures (args_read _ _ _ _ c.in_ok-args.ensures _ _ c.in_ok-next.ensures)
