-- The rules of the lowest layer: what reading is, what numbers are, and how an answer is told.
pub mod Ascii
pub mod Reader
pub mod Number
pub mod Looks
pub mod Paper
pub mod Listed
pub mod Refusals
pub mod Printed
pub mod Former
pub mod Tables
pub mod PointerSize
pub mod Cursor
pub mod Helpers
pub mod Calls
