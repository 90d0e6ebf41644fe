-- The C functions' answers, by the definitions of the entries, and what they promise a caller one after the other.
pub mod Rows
pub mod Versions
pub mod Counts
pub mod Promises
