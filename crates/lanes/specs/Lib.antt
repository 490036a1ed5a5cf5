pub mod Lanes
pub mod Lit
pub mod Equal
pub mod Marks
pub mod Compound
pub mod KnownLanes
