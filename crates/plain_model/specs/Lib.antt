pub mod Outcome
pub mod Versions
pub mod Laws
pub mod Scripts
