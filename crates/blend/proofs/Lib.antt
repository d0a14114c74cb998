-- Laws about the rules, for the proofs of this crate and of those above it.
pub mod Rows
pub mod There
pub mod Chains
pub mod Links
pub mod Lossless
pub mod Answers
pub mod Examples
pub mod Taken
pub mod Cutting
pub mod Refusing
