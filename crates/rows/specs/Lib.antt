pub mod Group
pub mod Values
pub mod Places
pub mod Stretch
pub mod Keys
