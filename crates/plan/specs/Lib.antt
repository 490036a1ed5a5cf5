pub mod Told
pub mod Exits
pub mod Known
pub mod Beneath
pub mod Codes
pub mod Ops
