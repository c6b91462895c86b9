pub mod Changes
pub mod Layers
pub mod Lists
pub mod Meant
pub mod Steps
