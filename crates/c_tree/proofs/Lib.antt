pub mod AlikeBlock
pub mod AlikeExpr
pub mod AlikeParts
pub mod AlikeProgram
pub mod Alikes
pub mod CallsExist
pub mod Cyclic
pub mod Deciders
pub mod Examples
pub mod Fills
pub mod Filtered
pub mod RegappedFolds
pub mod Opens
pub mod Puts
pub mod Ranks
pub mod Rebuilds
mod WellFormedExample
pub mod WellFormedKept
