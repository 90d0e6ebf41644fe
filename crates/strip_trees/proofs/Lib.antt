-- Laws that the three walks need.
pub mod Halves
pub mod Same
pub mod Found
