pub mod Journals
pub mod Steps
pub mod Lagging
pub mod Reading
pub mod Repetitions
pub mod Loading
pub mod Undoing
pub mod Appending
