pub mod Parts
pub mod Problem
pub mod Alone
pub mod Covering
