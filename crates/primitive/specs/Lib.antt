-- The rules of primitive values.
pub mod Primitive
pub mod Calls
