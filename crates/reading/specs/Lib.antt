-- What the readers' answers say of the sheet.
pub mod Progress
