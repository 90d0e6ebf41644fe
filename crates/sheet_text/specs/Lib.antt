-- Laws of the job sheet's text, one file a concern: each writer has a reader that undoes it, and the other way round.
pub mod Tests
pub mod Numbers
pub mod Forms
pub mod Layouts
pub mod Letters
pub mod Sheets
pub mod Lowest
pub mod Optional
pub mod Jobs
pub mod Places
pub mod Code
pub mod Longest
pub mod RoundTrips
