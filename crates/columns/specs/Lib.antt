-- A strip as a frame sees it, and what it says of the cells of a row.
pub mod Views
pub mod Limits
pub mod Frames
pub mod Reaches
