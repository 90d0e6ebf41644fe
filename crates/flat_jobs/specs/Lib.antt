-- A job as a row of numbers, for callers that cannot pass the struct.
pub mod FlatJobs
pub mod Rows
