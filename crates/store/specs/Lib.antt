pub mod Closing
pub mod Gatherers
pub mod Openings
pub mod Turns
pub mod Vaults
