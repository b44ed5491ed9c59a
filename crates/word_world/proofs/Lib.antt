pub mod Tables
pub mod Worlds
pub mod Lifts
pub mod Histories
pub mod RowWords
pub mod Opening
pub mod WordSteps
pub mod StateHands
