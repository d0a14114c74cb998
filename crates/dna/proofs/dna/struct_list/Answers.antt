-- `struct_list`: the mark, the count, and as many structs.
use Rattle.octets.proofs.Results.{handed_on}
use Rattle.dna.proofs.Counting.{no_strc, no-struct-count, structs_stop, structs-read}
use Rattle.dna.proofs.dna.struct_list.Goals as goal

pub returns-in_err-mark : goal.returns-in_err-mark
returns-in_err-mark c =
    let a = c.args in
    rw (handed_on _ _ c.from_residual.ensures.1) (no_strc a.e a.s.now _ _ c.in_err-mark.ensures)

pub returns-in_err-count : goal.returns-in_err-count
returns-in_err-count c =
    let a = c.args in
    rw (handed_on _ _ c.from_residual-in_err-count.ensures.1) (no-struct-count a.e a.s.now _ _ c.in_ok-mark.ensures _ c.in_err-count.ensures)

pub returns-in_err-fields : goal.returns-in_err-fields
returns-in_err-fields c =
    let a = c.args in
    rw (handed_on _ _ c.from_residual-in_err-fields.ensures.1) (structs_stop a.e a.s.now _ _ c.in_ok-mark.ensures _ _ c.in_ok-count.ensures _ c.in_err-fields.ensures)

pub returns : goal.returns
returns c =
    let a = c.args in
    structs-read a.e a.s.now _ _ c.in_ok-mark.ensures _ _ c.in_ok-count.ensures _ _ c.in_ok-fields.ensures
