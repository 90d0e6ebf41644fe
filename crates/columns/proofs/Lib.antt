-- Laws that the proofs of the columns share.
pub mod Numbers
pub mod Walks
pub mod Crossings
pub mod Rooms
pub mod Sides
