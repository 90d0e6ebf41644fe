-- Laws that the proofs of the walks over open edges share.
pub mod Listing
pub mod Looking
