pub mod Transactions
pub mod Works
