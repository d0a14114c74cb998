-- What the exit of a `?` hands on: the error that it met.
use mathlib.Core.Path.{◌≡◌, ◌∙◌, ap}
use Rattle.std.specs.Prelude.{Result, Err}
use Rattle.std.specs.Result.{IsErrAnd}
use Rattle.std.proofs.lemmas.Result.{err_from_is_err_and}

pub handed_on : {T E : Type 0} (r : Result T E) (f : E) → IsErrAnd r (λ (y : E). y ≡ f) → r ≡ Err f
handed_on r f h =
    let p = err_from_is_err_and r h in
    p.1 ∙ ap Err p.2
