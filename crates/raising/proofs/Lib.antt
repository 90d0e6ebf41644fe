-- Laws that the proofs of raising share.
pub mod Parts
