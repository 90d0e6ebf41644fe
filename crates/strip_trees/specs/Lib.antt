-- What the walks answer.
pub mod Comparisons
pub mod Counted
