-- `blend`: the header first, and then its blocks.
use mathlib.Core.Path.{◌∙◌}
use Rattle.octets.proofs.Filling.{refused-kept}
use Rattle.octets.proofs.Results.{handed_on}
use Rattle.blend.proofs.Answers.{header-inside, file-read, file-table, file-refused}
use Rattle.blend.proofs.blend.blend.Goals as goal

pub returns-in_err-h : goal.returns-in_err-h
returns-in_err-h c =
    let w = file-refused c.args.file.now c.in_err-h.field-0.0 c.in_err-h.ensures _ in
    rw (handed_on _ _ c.from_residual.ensures.1) (w, refused-kept _ _ _ _ _ w)

pub read_after-requires : goal.read_after-requires
read_after-requires c = header-inside c.args.file.now c.in_ok-h.h _ c.in_ok-h.ensures

pub returns : goal.returns
returns c =
    let a = c.args in
    (c.read_after.ensures.result_value ∙ file-read a.file.now c.in_ok-h.h _ c.in_ok-h.ensures _, file-table a.file.now c.in_ok-h.h _ c.in_ok-h.ensures _ a.table.now _ c.read_after.ensures.result_value c.read_after.ensures.table_after)
