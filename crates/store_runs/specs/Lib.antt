pub mod Tries
pub mod Crews
pub mod Alone
