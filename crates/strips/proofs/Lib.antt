-- Laws that belong to no one function.
pub mod Forms
pub mod Roundings
