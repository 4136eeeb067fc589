pub mod Rising
pub mod Owns
pub mod Slots
pub mod Index
pub mod Marks
pub mod Written
pub mod Sorting
pub mod LeftLemmas
