-- Laws that the proofs of the lengths share.
pub mod Found
