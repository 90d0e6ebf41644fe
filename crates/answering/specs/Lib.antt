-- A number that the program never prints.
pub mod NeverSpace
