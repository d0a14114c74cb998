-- The rules of the walker.
pub mod Walker
pub mod Calls
