pub mod Commands
pub mod Failures
pub mod Effects
pub mod Arguments
pub mod Sizes
