-- What the proofs of the readers need, a file for each kind of reader.
pub mod Sections
pub mod Kept
pub mod EdgeLines
pub mod Heads
pub mod Whole
