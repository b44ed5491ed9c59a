pub mod Growing
pub mod Means
pub mod Giving
pub mod Turns
pub mod Finish
pub mod Running
pub mod Starting
pub mod Looking
