pub mod Filler
pub mod Rules
pub mod Carried
pub mod Judging
pub mod Verdict
