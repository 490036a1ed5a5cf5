pub mod Ranks
pub mod ClassesLaws
pub mod Named
pub mod Filled
