-- Laws that belong to no one function.
pub mod Checking
pub mod Writing
