-- Definitions that speak of straight programs alone.
pub mod Frees
