-- What drawing asks for, and the letters that it leaves.
pub mod Letters
pub mod Ready
pub mod Tells
pub mod ByRows
