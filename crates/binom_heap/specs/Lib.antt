pub mod Trees
pub mod Laying
pub mod Work
pub mod Removal
pub mod Heap
