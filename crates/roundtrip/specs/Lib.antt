-- What is promised of writing and reading together.
pub mod Placed
pub mod Written
