-- The places of a node's numbers, and what the code's struct stands for.
pub mod Places
pub mod Structs
