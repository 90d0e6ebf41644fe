-- What the machine's absolute value is in the model.
pub mod Absolutes
