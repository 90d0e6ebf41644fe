-- Trees in a store by their places, and the walk over the places that keeps the open ones.
pub mod Starts
pub mod Looked
pub mod Counts
pub mod Sees
