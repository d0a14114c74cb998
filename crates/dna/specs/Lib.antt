-- The rules of the catalogue.
pub mod Catalogue
pub mod Passes
pub mod Calls
