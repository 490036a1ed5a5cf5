pub mod Run
pub mod Closure
pub mod Columns
pub mod Prepared
pub mod Edges
pub mod Places
pub mod Leads
pub mod Coded
