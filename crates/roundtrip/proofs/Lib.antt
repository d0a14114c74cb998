-- The proofs of what is promised of writing and reading together.
pub mod Codes
pub mod Blocks
pub mod Taken
pub mod Files
pub mod Again
pub mod Written
