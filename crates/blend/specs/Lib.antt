-- The rules of the chain.
pub mod Blocks
pub mod Chain
pub mod Helpers
pub mod Calls
