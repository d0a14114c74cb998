-- The proofs of the promises.
pub mod Calls
pub mod Promises
