-- Laws about the rules, for the proofs of this crate and of those above it.
pub mod Versions
pub mod Lengths
pub mod Headers
pub mod Trees
pub mod HeadersOut
pub mod HeadersAgain
pub mod Own
pub mod Cutting
pub mod Lossless
pub mod Refusing
pub mod Examples
