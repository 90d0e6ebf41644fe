-- What the answers of an exploration mean. By role:
-- one strip and one cell: answers by cases, distances, the tests' meanings
pub mod AnswerCases
pub mod Apart
pub mod Distances
pub mod Roots
pub mod Tests
-- whatever covers: a tree; of the edges see proofs/Cells
pub mod Trees
-- a job: what its acceptance says, the plate's quartering, what demand 3 rests on, the bounds of a point; demand 3 is proofs/DemandThree
pub mod Quartering
pub mod DemandThree
pub mod PointBounds
