pub mod ClashLaws
pub mod Examples
pub mod FactLaws
pub mod LogLaws
