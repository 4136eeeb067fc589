pub mod OfBook
pub mod KeeperLemmas
pub mod Packed
