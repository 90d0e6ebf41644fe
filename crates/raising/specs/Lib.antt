-- What raising leaves of a byte.
pub mod Raised
