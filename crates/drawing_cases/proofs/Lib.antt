-- What an accepted map leaves.
pub mod Left
