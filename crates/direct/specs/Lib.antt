pub mod Buffers
pub mod Kept
pub mod Listing
pub mod Rooms
