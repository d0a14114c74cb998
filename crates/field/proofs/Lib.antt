-- Laws about the rules, for the proofs of this crate and of those above it.
pub mod Products
pub mod Decimals
pub mod Dimensions
pub mod Scans
pub mod Told
pub mod Widths
pub mod Refusing
pub mod Functions
pub mod Lossless
pub mod Examples
