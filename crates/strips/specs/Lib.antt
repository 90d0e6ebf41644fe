-- What the code's structs stand for.
pub mod Structs
