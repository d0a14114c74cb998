-- `short`: the value of a slice of two bytes, which is never too short.
use mathlib.Core.Path.{◌∙◌}
use Rattle.dna.proofs.Shorts.{short-there, short-is}
use Rattle.dna.proofs.dna.short.Goals as goal

pub unwrap-requires : goal.unwrap-requires
unwrap-requires c =
    let a = c.args in
    short-there a.e a.s.now a.at c.requires c.parse_u16.result c.parse_u16.ensures

pub returns : goal.returns
returns c =
    let a = c.args in
    c.from.ensures ∙ short-is a.e a.s.now a.at c.requires c.parse_u16.result c.parse_u16.ensures _ c.unwrap.ensures
