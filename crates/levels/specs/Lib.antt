-- The open columns of each row at each level.
pub mod Open
pub mod Kept
