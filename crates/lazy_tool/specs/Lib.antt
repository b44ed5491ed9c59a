pub mod Headline
pub mod Commands
pub mod Scripts
pub mod Outcome
pub mod Faults
pub mod Ran
