-- The proofs of what a history of records, an image and a recovery come to.
pub mod Lists
pub mod Derived
pub mod Sound
pub mod Serial
pub mod Undo
pub mod Thin
pub mod Stands
pub mod Open
pub mod Loading
pub mod Whole
pub mod Collections
pub mod Fewer
