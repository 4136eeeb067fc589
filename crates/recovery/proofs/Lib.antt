pub mod FormatLemmas
pub mod HeadLemmas
pub mod LoadLemmas
pub mod OpenLemmas
pub mod FindLemmas
pub mod Stores
pub mod OpenedStores
pub mod RefusalLemmas
mod EditLemmas
mod CopyLemmas
mod FlipLemmas
mod UpgradeLemmas
mod ImageNumbers
mod ImageEntries
mod ImageCalls
mod ImageReading
pub mod FrozenBooks
pub mod CommittedReads
