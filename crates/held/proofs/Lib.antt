-- The laws that the proofs cite, and those that the crates above cite.
pub mod Seek
pub mod Same
pub mod Walks
