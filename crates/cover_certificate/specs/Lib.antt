pub mod Regular
pub mod Closed
pub mod Making
pub mod Lines
