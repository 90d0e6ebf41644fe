-- Tests joined; loops over rows; the next level; where a strip is inside; each turn of the walk.
pub mod Tests
pub mod Turns
pub mod Narrows
pub mod Deep
pub mod Walks
pub mod Loops
