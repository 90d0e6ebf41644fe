-- The subtree of a piece, and lists that begin with a tree in preorder.
pub mod Preorder
pub mod Begins
pub mod Fronts
pub mod At
pub mod Pending
pub mod Subtrees
pub mod Counts
pub mod Sizes
pub mod Full
