-- Laws that the proofs of drawing share.
pub mod Cells
pub mod Settles
pub mod Quartered
pub mod Maps
pub mod Depths
pub mod Raises
