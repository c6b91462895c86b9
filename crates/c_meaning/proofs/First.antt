-- Proofs that speak of straight programs alone.
mod Cells
pub mod Flat
pub mod Items
mod Freed
pub mod Held
pub mod Plain
pub mod Returns
pub mod Courses
