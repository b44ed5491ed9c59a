pub mod ToldRows
mod Digits
mod Filled
