-- The rules of views and of the search for an address.
pub mod Views
pub mod Addresses
pub mod Calls
