-- `dimension` reads the content of a group: a sign that is passed over, and digits.
use mathlib.Core.Path.{◌∙◌, ap}
use native.Mathlib.Omega.{arith}
use borrow.Author.Tests.{ltb-true}
use Rattle.octets.proofs.Reading.{to_the_end}
use Rattle.field.specs.Declarators.{unsigned}
use Rattle.field.specs.Helpers.{decimal_of}
use Rattle.field.proofs.Decimals.{signed_decimal, empty_decimal, plain-decimal}
use Rattle.field.proofs.field.dimension.Goals as goal
use Rattle.field.proofs.field.dimension.Goals.{in_default-via-then-part-lt1, in_default-via-else-part-lt1+in_default-1}

pub returns-in-43 : goal.returns-in-43
returns-in-43 c =
    let s = c.args.part.now in
    c.digits.ensures ∙ ap decimal_of (ap unsigned (to_the_end s 1) ∙ signed_decimal s c.in-43.len_at_least (omega arith))

pub returns-in_default : goal.returns-in_default
returns-in_default c =
    let s = c.args.part.now in
    c.digits-in_default.ensures
    ∙ ap decimal_of (
    elim c.in_default.branch [
      | in_default-via-then-part-lt1 w ↦ empty_decimal s (omega (arith, ltb-true))
      | in_default-via-else-part-lt1+in_default-1 w ↦ plain-decimal s (λ e. omega arith)
    ]
    )
