-- Laws about the rules, for the proofs of this crate and of those above it.
pub mod Codes
pub mod Layouts
pub mod There
pub mod Tables
pub mod Spelling
pub mod BlockHeadersOut
pub mod Lossless
pub mod Trees
pub mod Examples
