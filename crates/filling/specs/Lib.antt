-- Squares of a map, four quarters that make one, and the places of a row's stretch.
pub mod Squares
pub mod Quarters
pub mod Places
