-- Laws about the rules, for the proofs of this crate and of those above it.
pub mod Codes
pub mod Views
pub mod Lossless
pub mod Examples
