-- What the proofs of the writers need: of lines, and of the sheet.
pub mod Lines
pub mod Sheets
