mod Numbered
pub mod Listed
pub mod Invoked
pub mod Numbers
pub mod Follows
mod Starts
pub mod Lockstep
pub mod Instance
pub mod MetRuns
pub mod FilledGraphs
mod PlacesApart
pub mod WholeParts
pub mod CallsStand
pub mod Lands
mod Braces
pub mod Homes
pub mod EdgeWays
pub mod EdgeEnds
pub mod Outcomes
pub mod Births
pub mod Kept
mod Exact
