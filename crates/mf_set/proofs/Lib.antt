pub mod NumberLaws
pub mod WordLaws
pub mod OrderLaws
pub mod CountLaws
pub mod InverseLaws
pub mod SetLaws
pub mod EachWord
pub mod Examples
