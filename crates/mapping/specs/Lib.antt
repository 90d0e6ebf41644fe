-- The map entry's checks, one after the other.
pub mod Checks
