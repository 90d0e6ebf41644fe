-- What lists need beyond the kit's `lib.ListN` and `lib.Seq`: tables, rows of a square, parts of a slice that come back, filled stretches.
pub mod Tables
pub mod RowMajor
pub mod Parts
pub mod Stretches
