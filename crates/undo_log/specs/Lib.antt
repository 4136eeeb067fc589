pub mod Entries
pub mod Index
pub mod Logs
pub mod Stamps
pub mod LeftCalls
