mod Calls
pub mod Stops
pub mod Walk
