pub mod Works
pub mod PushWorks
pub mod TailWorks
pub mod ConcatWorks
