-- Laws that the proofs of the stretches share.
pub mod Ends
