-- The proofs that a catalog, and each of its shelves, keeps the laws of its traits.
pub mod OneContent
pub mod ByPlace
pub mod Makings
pub mod Catalogs
pub mod Numbers
pub mod Weaving
pub mod OnShelves
pub mod Shelves
