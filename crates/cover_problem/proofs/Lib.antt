pub mod Members
pub mod CountLaws
pub mod AllowedLaws
pub mod ProblemLaws
pub mod CoverLaws
pub mod AloneLaws
pub mod ShapeLaws
