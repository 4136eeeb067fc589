pub mod Answers
pub mod Area
pub mod Row
pub mod Layout
