-- Laws for the proofs of this crate and of those above it.
pub mod Storing
pub mod Files
pub mod Lossless
