pub mod Holds
pub mod Bounds
pub mod Claimed
pub mod Order
pub mod Segments
pub mod Owners
pub mod Collections
