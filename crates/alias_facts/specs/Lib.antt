pub mod Flow
pub mod Growth
pub mod Writing
pub mod Writes
pub mod Answer
