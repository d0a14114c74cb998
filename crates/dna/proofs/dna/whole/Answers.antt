-- `whole`: the mark, the names, the types, their sizes and the structs, one after another.
use Rattle.octets.proofs.Results.{handed_on}
use Rattle.dna.proofs.Layouts.{sdna_stopped, names-stopped, types-stopped, sizes-stopped, structs-stopped, structs-found}
use Rattle.dna.proofs.dna.whole.Goals as goal

pub returns-in_err-start : goal.returns-in_err-start
returns-in_err-start c =
    let a = c.args in
    rw (handed_on _ _ c.from_residual.ensures.1) (sdna_stopped a.e a.s.now 0 _ (rw c.new.ensures at c.in_err-start.ensures))

pub returns-in_err-names : goal.returns-in_err-names
returns-in_err-names c =
    let a = c.args in
    rw (handed_on _ _ c.from_residual-in_err-names.ensures.1) (names-stopped a.e a.s.now 0 _ (rw c.new.ensures at c.in_ok-start.ensures) _ c.in_err-names.ensures)

pub returns-in_err-types : goal.returns-in_err-types
returns-in_err-types c =
    let a = c.args in
    rw (handed_on _ _ c.from_residual-in_err-types.ensures.1) (types-stopped a.e a.s.now 0 _ (rw c.new.ensures at c.in_ok-start.ensures) _ _ c.in_ok-names.ensures.0 _ c.in_err-types.ensures)

pub returns-in_err-sizesat : goal.returns-in_err-sizesat
returns-in_err-sizesat c =
    let a = c.args in
    let t = c.in_ok-types.ensures in
    rw (handed_on _ _ c.from_residual-in_err-sizesat.ensures.1) (sizes-stopped a.e a.s.now 0 _ (rw c.new.ensures at c.in_ok-start.ensures) _ _ c.in_ok-names.ensures.0 _ _ t.0 _ t.1 _ c.in_err-sizesat.ensures)

pub returns-in_err-structs : goal.returns-in_err-structs
returns-in_err-structs c =
    let a = c.args in
    let t = c.in_ok-types.ensures in
    rw (handed_on _ _ c.from_residual-in_err-structs.ensures.1) (structs-stopped a.e a.s.now 0 _ (rw c.new.ensures at c.in_ok-start.ensures) _ _ c.in_ok-names.ensures.0 _ _ t.0 _ t.1 _ _ c.in_ok-sizesat.ensures.0 _ c.in_err-structs.ensures)

pub returns : goal.returns
returns c =
    let a = c.args in
    let n = c.in_ok-names.ensures in
    let t = c.in_ok-types.ensures in
    let z = c.in_ok-sizesat.ensures in
    let u = c.in_ok-structs.ensures in
    record {
      found = structs-found a.e a.s.now 0 _ (rw c.new.ensures at c.in_ok-start.ensures) _ _ n.0 _ _ t.0 _ t.1 _ _ z.0 _ _ u.0;
      names_are = n.1;
      types_are = t.1;
      sizes_are = z.1;
      structs_are = u.1;
      fields_are = u.2;
    }
