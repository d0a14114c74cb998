-- `parse_field` tells on paper what `scanned` found, and fills the table only where it accepts.
use mathlib.Core.Path.{◌∙◌, ap}
use native.Mathlib.Omega.{arith}
use Rattle.octets.proofs.Results.{handed_on}
use Rattle.field.specs.Declarators.{declared, paper_field}
use Rattle.field.proofs.Told.{Arrayed, plain-answer, invalid-answer, arrayed, array-no-room, array-too_large, array-answer, groups-inside, groups-few}
use Rattle.field.proofs.field.parse_field.Goals as goal
use Rattle.field.proofs.field.parse_field.Goals.{In-Array}

-- the parts are those of the array that the bytes are
parts : (c : In-Array) → Arrayed (declared c.args.name.now) c.in-Array.parts
parts c = arrayed _ _ (rw c.in-Array.is at c.in_ok-d.ensures)

pub returns-in_err-d : goal.returns-in_err-d
returns-in_err-d c =
    let w = invalid-answer _ _ c.args.dimensions.now c.in_err-d.ensures in
    (ap paper_field (handed_on _ _ c.from_residual.ensures.1) ∙ w.0, w.1)

pub returns-then-dimensions-parts : goal.returns-then-dimensions-parts
returns-then-dimensions-parts c = array-no-room _ _ (parts (goal.at.returns-then-dimensions-parts c).In-Array) _ c.if-dimensions-parts.true

pub returns-in_err-d-in-Array : goal.returns-in_err-d-in-Array
returns-in_err-d-in-Array c =
    let w = array-too_large _ _ (parts (goal.at.returns-in_err-d-in-Array c).In-Array) _ c.if-dimensions-parts.false _ c.in_err-d-in-Array.ensures in
    (ap paper_field (handed_on _ _ c.from_residual-in_err-d-in-Array.ensures.1) ∙ w.0, w.1)

pub overflow_add-from : goal.overflow_add-from
overflow_add-from c = omega (arith, groups-inside c.args.name.now _ (parts (goal.at.overflow_add-from c).In-Array))

pub slice_bounds-fill_dimensions-count : goal.slice_bounds-fill_dimensions-count
slice_bounds-fill_dimensions-count c = groups-inside c.args.name.now _ (parts (goal.at.slice_bounds-fill_dimensions-count c).In-Array)

pub slice_bounds-fill_dimensions-start : goal.slice_bounds-fill_dimensions-start
slice_bounds-fill_dimensions-start c = groups-inside c.args.name.now _ (parts (goal.at.slice_bounds-fill_dimensions-start c).In-Array)

pub fill_dimensions-requires : goal.fill_dimensions-requires
fill_dimensions-requires c = groups-few c.args.name.now _ (parts (goal.at.fill_dimensions-requires c).In-Array) c.args.dimensions.now c.if-dimensions-parts.false

pub returns-in-Plain : goal.returns-in-Plain
returns-in-Plain c = plain-answer _ _ _ (rw c.in-Plain.is at c.in_ok-d.ensures)

pub returns-in_ok-d-in-Array : goal.returns-in_ok-d-in-Array
returns-in_ok-d-in-Array c =
    array-answer c.args.name.now _ (parts (goal.at.returns-in_ok-d-in-Array c).In-Array) _ _ c.if-dimensions-parts.false _ c.in_ok-d-in-Array.ensures c.fill_dimensions.ensures
