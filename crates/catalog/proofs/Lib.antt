pub mod Entries
pub mod Places
pub mod Whole
pub mod Listings
pub mod Orders
