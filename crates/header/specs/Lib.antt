-- The rules of the file header, and the layout of the block headers after it.
pub mod Header
pub mod HeaderOut
pub mod Printed
pub mod Layout
pub mod Helpers
pub mod Calls
