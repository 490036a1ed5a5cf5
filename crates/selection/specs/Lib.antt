-- For both engines: what one does for a query that refuses nothing, and laws of what it is asked.
pub mod Selected
pub mod Taken
pub mod Ranks
