pub mod Filled
pub mod LowByte
pub mod Put
