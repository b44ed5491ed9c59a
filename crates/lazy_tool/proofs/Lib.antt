pub mod BuiltLaws
pub mod Readings
pub mod Replies
pub mod Completeness
