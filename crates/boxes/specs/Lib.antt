-- What a point's ranges are, and which of two numbers a test picks.
pub mod Picked
pub mod Ranges
