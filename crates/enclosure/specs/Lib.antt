-- A strip encloses its piece; the tree of an edge covers the edge's curve.
pub mod Cubic
pub mod Line
pub mod Covers
pub mod Edges
