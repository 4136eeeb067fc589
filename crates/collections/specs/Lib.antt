pub mod Numbers
pub mod Holders
pub mod Items
