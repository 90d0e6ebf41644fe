pub mod Tests
pub mod Cells
pub mod DemandThree
