-- Laws about what the functions for other languages answer, for the proofs of the demands.
pub mod Faults
pub mod Widths
pub mod Written
