-- One strip over a row of cells: the columns in which it is not away lie side by side, and so do those in which it is inside. By role:
-- the tests grow with the distance; so the columns in which they hold lie side by side, and two walks find them
pub mod Growth
pub mod Columns
-- distances that settle a test; the slanted test's columns
pub mod Clips
pub mod Slanted
-- both tests together
pub mod Rows
