pub mod Lanes
pub mod OfBase
pub mod OfCompound
pub mod Known
pub mod Grouping
pub mod RivalsLaws
