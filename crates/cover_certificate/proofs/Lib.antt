pub mod GapPuts
pub mod FilledPosts
mod PassingLaws
mod Ascents
mod Deduped
mod SetOrder
mod LineLaws
mod RegularFacts
mod MadeLaws
pub mod FilledFrees
pub mod Covered
pub mod CoverFacts
pub mod CoverPuts
pub mod CoverMarks
pub mod CoverCloses
