pub mod Front
pub mod Queue
