pub mod ImageAnswers
pub mod Imaging
pub mod Keepers
pub mod Stored
pub mod DiskHeads
pub mod Crash
pub mod Keeping
