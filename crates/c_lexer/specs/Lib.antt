pub mod Bytes
pub mod Opening
pub mod Words
pub mod Elements
pub mod Scan
pub mod Front
pub mod Nest
pub mod Outcome
