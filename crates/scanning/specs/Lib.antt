-- What the readers' answers say.
pub mod Scanned
