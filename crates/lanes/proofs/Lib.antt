pub mod Stretch
pub mod Tests
pub mod LitStored
pub mod Picked
