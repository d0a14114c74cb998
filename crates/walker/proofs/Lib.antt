-- Laws about the rules, for the proofs of this crate and of those above it.
pub mod Lossless
pub mod Steps
pub mod Walks
pub mod Examples
