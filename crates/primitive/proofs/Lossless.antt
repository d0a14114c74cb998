-- The papers of the answers lose nothing: two answers that are told alike are the same answer.
use Prim.Native.Nat.{ℕ}
use mathlib.Core.List.{[]}
use mathlib.Core.Path.{◌≡◌}
use lib.IntN.{ℤ}
use lib.Ieee.{Float}
use Rattle.std.specs.Prelude.{Result}
use Rattle.octets.specs.declared.Refusal.{Refusal}
use Rattle.octets.specs.Paper.Paper.{integer, refuses}
use Rattle.octets.specs.Refusals.{paper_answer}
use Rattle.primitive.specs.declared.primitive.FloatRead.{FloatRead}
use Rattle.primitive.specs.Primitive.{unsigned, paper_float}
use Rattle.octets.proofs.Lossless.{whole-answer}

pub whole_unsigned : (x y : Result ℕ Refusal) → paper_answer unsigned x ≡ paper_answer unsigned y → x ≡ y
whole_unsigned = whole-answer unsigned (λ a b e. cc) (λ a n e. cc)

pub whole_signed : (x y : Result ℤ Refusal) → paper_answer integer x ≡ paper_answer integer y → x ≡ y
whole_signed = whole-answer integer (λ a b e. cc) (λ a n e. cc)

one_float : (a b : FloatRead Float ℕ) → paper_float a ≡ paper_float b → a ≡ b
one_float (FloatRead.Is x) (FloatRead.Is y) e = cc
one_float (FloatRead.Is x) (FloatRead.Nan n) e = cc
one_float (FloatRead.Nan m) (FloatRead.Is y) e = cc
one_float (FloatRead.Nan m) (FloatRead.Nan n) e = cc

taken_float : (a : FloatRead Float ℕ) (n : ℕ) → paper_float a ≡ refuses n [] → ⊥
taken_float (FloatRead.Is x) n e = cc
taken_float (FloatRead.Nan m) n e = cc

pub whole_float : (x y : Result (FloatRead Float ℕ) Refusal) → paper_answer paper_float x ≡ paper_answer paper_float y → x ≡ y
whole_float = whole-answer paper_float one_float taken_float
