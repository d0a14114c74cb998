-- The papers of the answers lose nothing: two answers that are told alike are the same answer.
use Rattle.std.specs.Prelude.{Result, Ok, Err}
use Prim.Native.Nat.{ℕ, ◌<◌}
use mathlib.Core.List.{List, [], ◌∷◌}
use mathlib.Core.Path.{◌≡◌, sym, ap}
use native.Mathlib.Omega.{arith}
use Rattle.octets.specs.declared.Fault.{Fault}
use Rattle.octets.specs.declared.Fault.TheVariants.{Cut, Mark}
use Rattle.octets.specs.Paper.Paper.{accepts, refuses}
use Rattle.octets.specs.Refusals.{paper_fault}
use Rattle.octets.proofs.Lossless.{whole-fault}
use Rattle.writable.specs.declared.writable.WritableError.{WritableError}
use Rattle.writable.specs.Writable.{paper_unwritable, paper_needed}

-- a fault carries no number with a refusal above 17
pub above : (number m : ℕ) → 17 < number → (x : Fault) → refuses number (m ∷ []) ≡ paper_fault x → ⊥
above number m k (Cut at) e =
    let z : number ≡ 16 = cc in
    omega (arith, k, z)
above number m k (Mark at) e =
    let z : number ≡ 17 = cc in
    omega (arith, k, z)
above number m k (Fault.Refusal n) e =
    let z : ◌≡◌ {A = ℕ} 0 1 = cc in
    absurd (omega arith)

pub one_unwritable : (a b : WritableError) → paper_unwritable a ≡ paper_unwritable b → a ≡ b
one_unwritable (WritableError.Fault x) (WritableError.Fault y) e = ap WritableError.Fault (whole-fault x y e)
one_unwritable (WritableError.Fault x) (WritableError.NoRoom m) e = absurd (above 19 m (omega arith) x (sym e))
one_unwritable (WritableError.NoRoom n) (WritableError.Fault y) e = absurd (above 19 n (omega arith) y e)
one_unwritable (WritableError.NoRoom n) (WritableError.NoRoom m) e = cc

-- an error's paper is no paper of a number
pub unwritable_refuses : (a : WritableError) (k : ℕ) (vs : List ℕ) → paper_unwritable a ≡ accepts k vs → ⊥
unwritable_refuses (WritableError.Fault x) k vs e = cc
unwritable_refuses (WritableError.NoRoom n) k vs e = cc

pub whole_needed : (a b : Result ℕ WritableError) → paper_needed a ≡ paper_needed b → a ≡ b
whole_needed (Ok n) (Ok m) e = cc
whole_needed (Ok n) (Err y) e = absurd (unwritable_refuses y _ _ (sym e))
whole_needed (Err x) (Ok m) e = absurd (unwritable_refuses x _ _ e)
whole_needed (Err x) (Err y) e = ap Err (one_unwritable x y e)
