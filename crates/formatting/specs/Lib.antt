-- What the writers leave.
pub mod Puts
pub mod Texts
