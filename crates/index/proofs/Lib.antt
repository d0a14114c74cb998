-- Laws about the rules, for the proofs of this crate and of those above it.
pub mod Firsts
pub mod Room
pub mod Building
pub mod Chains
pub mod Answers
pub mod Plain
pub mod Lossless
pub mod Examples
