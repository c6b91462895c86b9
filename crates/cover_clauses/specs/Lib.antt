pub mod Clauses
pub mod Parts
pub mod Conflicts
pub mod Listing
