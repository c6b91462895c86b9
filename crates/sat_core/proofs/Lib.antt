pub mod AnswerLaws
pub mod ListLaws
pub mod LogParts
pub mod PlainLaws
pub mod ResolutionLaws
