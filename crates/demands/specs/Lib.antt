pub mod Given
pub mod Agreement
pub mod Witness
pub mod Leaving
pub mod Gathered
