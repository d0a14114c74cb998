-- The rules of the index.
pub mod Index
pub mod Helpers
pub mod Calls
