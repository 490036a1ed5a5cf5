pub mod Base
pub mod Marks
pub mod Says
