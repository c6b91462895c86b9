pub mod PutsByGap
pub mod Gaps
pub mod Changes
pub mod Edit
pub mod Refilled
pub mod InScope
pub mod Reads
pub mod ReadsBack
