pub mod Signed
pub mod ByKind
pub mod Nearest
pub mod OfKind
