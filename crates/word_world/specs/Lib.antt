pub mod Words
pub mod LawfulWords
