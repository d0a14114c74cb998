-- The rules of the library for other languages.
pub mod Exports
pub mod Calls
