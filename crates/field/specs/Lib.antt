-- The rules of declarators.
pub mod Declarators
pub mod Former
pub mod Helpers
pub mod Calls
