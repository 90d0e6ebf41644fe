-- Laws of the code's quotients.
pub mod Nearest
