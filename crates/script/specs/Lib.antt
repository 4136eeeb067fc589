pub mod Addresses
pub mod ScriptTexts
pub mod Scripts
pub mod Waits
pub mod Wishes
pub mod Reviews
