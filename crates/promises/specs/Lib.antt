-- The promises, as statements: Promises.antt is the page to read first, Calls.antt has every public call with its contract, Keeps.antt says what it is to keep one.
pub mod Keeps
pub mod Calls
pub mod Promises
pub mod Wrong
