-- The laws of the face, all that a crate above needs beside `model`: each is a statement that model/specs/Promises names.
-- the round trips, and what is known of a job that was read and of the bytes written
pub mod Sheets
-- demand 3 of a map, the exact verdict, and the bounds and the edge of a point
pub mod Demands
-- many points in one call
pub mod Rows
-- from a byte of a map to its meaning
pub mod Letters
