-- Laws about the rules, for the proofs of this crate and of those above it.
pub mod Values
pub mod Lossless
pub mod Examples
