-- What a stretch holds.
pub mod Among
