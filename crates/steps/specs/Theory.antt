-- The machine of a journal: what a book of transactions runs forward, what recovery repeats, and
-- what both come to.
pub mod Rules
pub mod Journal
pub mod Machine
pub mod Theorems
pub mod Images
pub mod Loads
pub mod Crash
pub mod Collections
