-- The rules of writing.
pub mod Writer
pub mod Helpers
pub mod Calls
