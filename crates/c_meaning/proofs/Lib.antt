mod CellLists
mod StackLists
pub mod Evals
mod Conditions
mod Examples
pub mod First
pub mod Opened
pub mod BareTests
pub mod BareParts
pub mod BuiltSpots
pub mod Outlines
pub mod Regapped
pub mod OutlinePlaces
pub mod CallPlaces
pub mod GapBound
pub mod WellFormedGaps
pub mod Together
pub mod Agree
pub mod StoresAgree
pub mod Runs
pub mod AlikeRuns
pub mod FreesApart
pub mod FaultTexts
