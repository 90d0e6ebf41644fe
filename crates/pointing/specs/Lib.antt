-- The answer of a refused point.
pub mod Refused
