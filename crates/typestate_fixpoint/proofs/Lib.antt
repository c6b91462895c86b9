pub mod TripleLaws
pub mod GapLaws
pub mod EdgeLaws
pub mod GoingLaws
