-- `header_in`: the magic, then the byte after it.
use mathlib.Core.List.{[]}
use mathlib.Core.Path.{◌≡◌, ◌∙◌}
use Rattle.std.specs.Option.{ok_or}
use Rattle.std.specs.Prelude.{Option, Some, None, Err}
use Rattle.octets.proofs.Results.{handed_on}
use Rattle.header.proofs.Headers.{no-magic, header-short, header-long, header-new}
use Rattle.header.proofs.blend.header_in.Goals as goal

-- where there was nothing, the error is the one that was given
missed : {A E : Type 0} (o : Option A) (x y : E) → o ≡ None → Err y ≡ ok_or o x → y ≡ x
missed None x y t h = cc
missed (Some a) x y t h = cc

pub returns-in_err-c : goal.returns-in_err-c
returns-in_err-c c =
    let q = c.in_err-c.ensures in
    rw (handed_on _ _ c.from_residual.ensures.1, missed _ _ _ q.ok_part q.value) (no-magic c.args.s.now _ _ c.begins.ensures q.ok_part)

pub returns-in-Some : goal.returns-in-Some
returns-in-Some c = c.ordered.ensures [] ∙ header-short c.args.s.now _ _ c.begins.ensures _ c.in_ok-c.ensures.ok_part _ c.in-Some.ensures

pub returns-in-Some-begins : goal.returns-in-Some-begins
returns-in-Some-begins c =
    c.ordered-in-Some-begins.ensures [] ∙ header-long c.args.s.now _ _ c.begins.ensures _ c.in_ok-c.ensures.ok_part c.in_default.ensures _ c.in-Some-begins.ensures

pub returns : goal.returns
returns c = c.new.ensures ∙ header-new c.args.s.now _ _ c.begins.ensures _ c.in_ok-c.ensures.ok_part c.in_default.ensures c.in_default-begins.ensures
