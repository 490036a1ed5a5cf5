pub mod Beats
pub mod LowestIn
pub mod Naming
pub mod Lowest
pub mod Entry
pub mod Answers
