-- A part of a cell inherits the cell's answers: so a tree that is away need not be asked again, and each letter that quartering draws is
-- the smallest cell's own. By role: cells and strips, trees, the tests by the reach, edges; the plate and its blocks
pub mod Parts
pub mod Trees
pub mod Reach
pub mod Edges
pub mod Drawn
pub mod Blocks
