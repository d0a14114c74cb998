-- `fn_pointer` tells on paper what `function_pointer` found.
use mathlib.Core.Path.{◌∙◌, ap}
use Rattle.field.specs.Declarators.{paper_function}
use Rattle.field.proofs.Told.{function_told_lem}
use Rattle.field.proofs.field.fn_pointer.Goals as goal

pub returns : goal.returns
returns c = ap paper_function c.function_pointer.ensures ∙ function_told_lem c.args.name.now
