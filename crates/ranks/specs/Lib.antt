pub mod Rank
pub mod ByRank
pub mod Put
pub mod Made
pub mod Copied
pub mod Ranked
