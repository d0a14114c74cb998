-- Laws about the rules, for the proofs of this crate and of those above it.
pub mod Lossless
pub mod Examples
pub mod Counting
pub mod Shorts
pub mod Layouts
pub mod Rows
pub mod Answers
pub mod Refusing
pub mod Cutting
