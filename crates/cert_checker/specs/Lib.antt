pub mod Checking
pub mod Checked
