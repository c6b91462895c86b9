pub mod Has
pub mod CallLaws
mod Visits
pub mod ContextLaws
pub mod WellFormedCalls
