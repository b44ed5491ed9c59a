pub mod ListEnds
pub mod SequenceEnds
pub mod Bases
pub mod PushEnds
pub mod Looks
pub mod Readiness
pub mod PopEnds
