-- The rules of block headers, of the kinds of blocks and of their rows.
pub mod Kinds
pub mod BlockHeaders
pub mod Rows
pub mod Spelling
pub mod Helpers
pub mod Calls
