pub mod Calls
pub mod Contexts
