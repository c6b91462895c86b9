pub mod Actions
pub mod Nodes
pub mod Moves
pub mod Met
pub mod Executes
pub mod Ways
pub mod Laws
pub mod Filled
