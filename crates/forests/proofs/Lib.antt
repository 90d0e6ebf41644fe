-- Laws that belong to no one function.
pub mod NextEdge
pub mod Whole
pub mod Checks
pub mod Controls
