mod Append
mod Exits
pub mod Facts
mod Laying
pub mod Parts
mod Reading
pub mod Rows
pub mod Unique
