-- The tests of a node over plain numbers, the sizes that keep them in 64 bits, and what an answer means.
pub mod Limits
pub mod PlainTests
pub mod Answers
