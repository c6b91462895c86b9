pub mod Corrections
pub mod Numbering
pub mod Paths
pub mod Shows
pub mod Start
pub mod Worklist
