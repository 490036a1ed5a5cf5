pub mod Coded
pub mod OutcomesCoded
pub mod Asked
