pub mod Each
pub mod Runs
pub mod Owners
pub mod Settled
