-- `parse` is the value of a kind, by the laws over the width.
use mathlib.Core.Path.{◌∙◌}
use Rattle.octets.specs.Cursor.{width_of}
use Rattle.primitive.proofs.Values.{too_short, value_read, value-fits}
use Rattle.primitive.proofs.primitive.parse.Goals as goal

pub returns-in_default : goal.returns-in_default
returns-in_default g c = too_short (width_of g.T.BlendPrimitive.WIDTH) g.T.BlendPrimitive.told _ _ _ (rw (c.WIDTH.ensures, c.new.ensures) at c.in_default.ensures)

pub of_number-requires : goal.of_number-requires
of_number-requires g c =
    let a = c.args in
    value-fits (width_of g.T.BlendPrimitive.WIDTH) a.endianness a.slice.now (λ j. (c.type_inv.slice j).fits) _ _ (rw (c.WIDTH.ensures, c.new.ensures) at c.in-Ok.ensures)

pub returns : goal.returns
returns g c =
    c.of_number.ensures ∙ value_read (width_of g.T.BlendPrimitive.WIDTH) g.T.BlendPrimitive.told _ _ _ _ (rw (c.WIDTH.ensures, c.new.ensures) at c.in-Ok.ensures)
