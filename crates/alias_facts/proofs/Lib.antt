pub mod FlowLaws
pub mod GrowthLaws
pub mod FoundLaws
pub mod WritingLaws
pub mod WriteLaws
pub mod AnswerLaws
