-- The rules of the forms that hold references.
pub mod Held
pub mod Calls
pub mod Walks
