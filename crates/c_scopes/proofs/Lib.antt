pub mod ScopeAscends
pub mod ScopeNumbers
pub mod ScopeOrder
mod TurnLaws
pub mod TurnRows
