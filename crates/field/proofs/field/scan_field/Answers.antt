-- `scan_field` tells on paper what `scanned` found.
use mathlib.Core.Path.{◌∙◌, ap}
use Rattle.octets.proofs.Results.{handed_on}
use Rattle.field.specs.Declarators.{paper_scanned}
use Rattle.field.proofs.Told.{plain_told_lem, invalid-scanned, arrayed, array-scanned}
use Rattle.field.proofs.field.scan_field.Goals as goal

pub returns-in_err-d : goal.returns-in_err-d
returns-in_err-d c = ap paper_scanned (handed_on _ _ c.from_residual.ensures.1) ∙ invalid-scanned _ _ c.in_err-d.ensures

pub returns-in-Plain : goal.returns-in-Plain
returns-in-Plain c = plain_told_lem _ _ (rw c.in-Plain.is at c.in_ok-d.ensures)

pub returns-in-Array : goal.returns-in-Array
returns-in-Array c = ap paper_scanned c.declarator.ensures ∙ array-scanned _ _ (arrayed _ _ (rw c.in-Array.is at c.in_ok-d.ensures))
