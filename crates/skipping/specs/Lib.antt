-- Why a lookup may skip: a box is no farther than its leaves, and leaves that are no nearer than hi change nothing. And why the edge that it
-- names is the first.
pub mod Extremes
pub mod Smallest
pub mod Least
pub mod Named
pub mod Nearness
pub mod Visits
pub mod Lookups
