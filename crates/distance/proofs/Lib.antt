-- Laws that belong to no one function.
pub mod Walks
pub mod Edges
