-- What painting by rows leaves of a cell.
pub mod Weights
-- the walk over a part of the store, and its levels
pub mod Waiting
pub mod Levels
pub mod Bands
