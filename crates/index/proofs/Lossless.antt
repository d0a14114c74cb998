-- The papers of the answers lose nothing: two answers that are told alike are the same answer.
use Prim.Native.Nat.{ℕ}
use mathlib.Core.List.{List, []}
use mathlib.Core.Path.{◌≡◌, refl, sym, ◌∙◌, ap}
use Rattle.std.specs.Prelude.{Result, Ok, Err}
use Rattle.octets.specs.Paper.{Paper}
use Rattle.octets.specs.Paper.Paper.{accepts, refuses}
use Rattle.octets.proofs.Lossless.{one_refusal}
use Rattle.runtime.specs.declared.runtime.Pointer.{Pointer}
use Rattle.runtime.specs.Addresses.{pointer}
use Rattle.runtime.proofs.Lossless.{one_pointer, pointer_taken}
use Rattle.index.specs.declared.index.IndexError.{IndexError}
use Rattle.index.specs.Index.{paper_index_error, paper_index, paper_indexed, paper_found}

one_error : (x y : IndexError) → paper_index_error x ≡ paper_index_error y → x ≡ y
one_error (IndexError.Refusal r) (IndexError.Refusal q) e = ap IndexError.Refusal (one_refusal r q (cc))
one_error (IndexError.Refusal r) (IndexError.TooShort b n) e = cc
one_error (IndexError.TooShort b n) (IndexError.Refusal r) e = cc
one_error (IndexError.TooShort b n) (IndexError.TooShort c m) e = cc

error_refuses : (x : IndexError) → (n : ℕ) × (vs : List ℕ) × (paper_index_error x ≡ refuses n vs)
error_refuses (IndexError.Refusal r) = (_, _, refl)
error_refuses (IndexError.TooShort b n) = (_, _, refl)

module _ {A : Type 0} (paper : A → Paper) (one : (a b : A) → paper a ≡ paper b → a ≡ b) (taken : (a : A) (n : ℕ) (vs : List ℕ) → paper a ≡ refuses n vs → ⊥) where
  whole_index : (x y : Result A IndexError) → paper_index paper x ≡ paper_index paper y → x ≡ y
  whole_index (Ok a) (Ok b) e = ap Ok (one a b e)
  whole_index (Ok a) (Err y) e = absurd (taken a _ _ (e ∙ (error_refuses y).2))
  whole_index (Err x) (Ok b) e = absurd (taken b _ _ (sym e ∙ (error_refuses x).2))
  whole_index (Err x) (Err y) e = ap Err (one_error x y e)

pub whole_indexed : (a b : Result (Unit {0}) IndexError) → paper_indexed a ≡ paper_indexed b → a ≡ b
whole_indexed = whole_index (λ u. accepts 0 []) (λ u v e. refl) (λ u n vs e. cc)

pub whole-found : (a b : Result Pointer IndexError) → paper_found a ≡ paper_found b → a ≡ b
whole-found = whole_index pointer one_pointer pointer_taken
