-- Laws about the rules, for the proofs of this crate and of those above it.
pub mod Judging
pub mod Fitting
pub mod Answers
pub mod Accepted
pub mod Lossless
