pub mod Bits
pub mod Numbers
pub mod Masks
pub mod Parts
pub mod Known
pub mod BeneathLaws
