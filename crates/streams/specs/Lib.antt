-- What reading an input comes to, and what the program's answer is of: the whole input, though no more of it is read than tells a sheet from
-- what is too long to be one.
pub mod Reading
pub mod Inputs
pub mod Outputs
