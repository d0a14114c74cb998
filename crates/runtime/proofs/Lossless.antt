-- The papers of the answers lose nothing: two answers that are told alike are the same answer.
use Prim.Native.Nat.{ℕ}
use mathlib.Core.List.{List, []}
use mathlib.Core.Path.{◌≡◌, refl}
use Rattle.std.specs.Prelude.{Result, Option, Some, None}
use Rattle.octets.specs.declared.Refusal.{Refusal}
use Rattle.octets.specs.Paper.Paper.{accepts, refuses}
use Rattle.octets.proofs.Lossless.{whole-answer}
use Rattle.runtime.specs.declared.runtime.Pointer.{Pointer}
use Rattle.runtime.specs.Views.{paper_view}
use Rattle.runtime.specs.Addresses.{pointer, paper_pointer, paper_code}

pub whole-view : (a b : Result (Unit {0}) Refusal) → paper_view a ≡ paper_view b → a ≡ b
whole-view = whole-answer (λ u. accepts 0 []) (λ u v e. refl) (λ u n e. cc)

pub one_pointer : (p q : Pointer) → pointer p ≡ pointer q → p ≡ q
one_pointer Pointer.Null Pointer.Null e = refl
one_pointer Pointer.Null (Pointer.Block n) e = cc
one_pointer Pointer.Null Pointer.Missing e = cc
one_pointer (Pointer.Block m) Pointer.Null e = cc
one_pointer (Pointer.Block m) (Pointer.Block n) e = cc
one_pointer (Pointer.Block m) Pointer.Missing e = cc
one_pointer Pointer.Missing Pointer.Null e = cc
one_pointer Pointer.Missing (Pointer.Block n) e = cc
one_pointer Pointer.Missing Pointer.Missing e = refl

pub pointer_taken : (p : Pointer) (n : ℕ) (vs : List ℕ) → pointer p ≡ refuses n vs → ⊥
pointer_taken Pointer.Null n vs e = cc
pointer_taken (Pointer.Block m) n vs e = cc
pointer_taken Pointer.Missing n vs e = cc

pub whole-pointer : (a b : Result Pointer Refusal) → paper_pointer a ≡ paper_pointer b → a ≡ b
whole-pointer = whole-answer pointer one_pointer (λ p n e. pointer_taken p n [] e)

pub whole_code : (a b : Option (List ℕ)) → paper_code a ≡ paper_code b → a ≡ b
whole_code (Some x) (Some y) e = cc
whole_code (Some x) None e = cc
whole_code None (Some y) e = cc
whole_code None None e = refl
