-- The paper of the answer loses nothing: two answers that are told alike are the same answer.
use Rattle.std.specs.Prelude.{Result, Ok, Err}
use Prim.Native.Nat.{ℕ}
use mathlib.Core.Path.{◌≡◌, sym, ap}
use native.Mathlib.Omega.{arith}
use Rattle.octets.specs.Refusals.{output_too_short}
use Rattle.writable.proofs.Lossless.{above, one_unwritable, unwritable_refuses}
use Rattle.writer.specs.declared.writer.WriteError.{WriteError}
use Rattle.writable.specs.declared.writable.WritableError.{WritableError}
use Rattle.writable.specs.Writable.{paper_unwritable}
use Rattle.writer.specs.Writer.{paper_write}

short_unwritable : (n : ℕ) (u : WritableError) → output_too_short n ≡ paper_unwritable u → ⊥
short_unwritable n (WritableError.Fault x) e = above 18 n (omega arith) x e
short_unwritable n (WritableError.NoRoom m) e = let z : ◌≡◌ {A = ℕ} 18 19 = cc in omega arith

pub whole-write : (a b : Result ℕ WriteError) → paper_write a ≡ paper_write b → a ≡ b
whole-write (Ok n) (Ok m) e = cc
whole-write (Ok n) (Err (WriteError.Unwritable y)) e = absurd (unwritable_refuses y _ _ (sym e))
whole-write (Ok n) (Err (WriteError.TooShort m)) e = cc
whole-write (Err (WriteError.Unwritable x)) (Ok m) e = absurd (unwritable_refuses x _ _ e)
whole-write (Err (WriteError.Unwritable x)) (Err (WriteError.Unwritable y)) e = ap (λ (u : WritableError). Err (WriteError.Unwritable u)) (one_unwritable x y e)
whole-write (Err (WriteError.Unwritable x)) (Err (WriteError.TooShort m)) e = absurd (short_unwritable m x (sym e))
whole-write (Err (WriteError.TooShort n)) (Ok m) e = cc
whole-write (Err (WriteError.TooShort n)) (Err (WriteError.Unwritable y)) e = absurd (short_unwritable n y e)
whole-write (Err (WriteError.TooShort n)) (Err (WriteError.TooShort m)) e = cc
