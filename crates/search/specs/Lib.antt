-- The cells that a search is asked of.
pub mod Probes
