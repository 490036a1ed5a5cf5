pub mod Coded
pub mod Steps
pub mod Parts
pub mod Grouped
