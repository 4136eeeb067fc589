pub mod Meaning
pub mod Laws
pub mod Kinds
pub mod Runs
