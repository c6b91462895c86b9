pub mod ScopeAt
pub mod Turns
