-- How an answer is told on paper: what is accepted with its numbers, or the number of the refusal with what it carries. Each enum that a
-- caller of the reader gets has such a paper, and its contract compares papers, or, of the lowest reads, what a tree finds. proofs/Lossless.antt: equal papers,
-- equal answers.
use Rattle.std.specs.Prelude.{ℕ, List, ℤ, Float}

pub data Paper : Type 0 where
  accepts : ℕ → List ℕ → Paper  -- an answer: which one of those that the call can give, and its numbers
  integer : ℤ → Paper  -- an answer that is one whole number with its sign
  real : Float → Paper  -- an answer that is one float; the rules give no NaN here
  refuses : ℕ → List ℕ → Paper  -- a refusal: its number, and what it carries
