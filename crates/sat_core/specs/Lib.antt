pub mod Answer
pub mod Bits
pub mod Learning
