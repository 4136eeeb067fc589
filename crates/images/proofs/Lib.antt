pub mod ImageRecords
pub mod Repeats
pub mod Following
pub mod Going
pub mod Running
pub mod Undoing
mod Laters
pub mod OnShelf
