pub mod Places
pub mod Making
pub mod Meaning
pub mod Holdings
pub mod Fours
pub mod Woven
pub mod Shelving
pub mod Laws
