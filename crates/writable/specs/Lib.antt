-- The rules of what can be written.
pub mod Writable
pub mod Helpers
pub mod Calls
