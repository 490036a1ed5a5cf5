pub mod Ranks
pub mod Pairs
pub mod OneProof
pub mod GroupsPairs
pub mod Better
