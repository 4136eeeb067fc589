pub mod Rooms
pub mod Marks
pub mod Gatherings
