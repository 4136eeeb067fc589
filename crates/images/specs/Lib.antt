pub mod LiveRecords
pub mod Images
pub mod Gathers
pub mod Views
pub mod Following
pub mod Gatherings
pub mod GatheringViews
pub mod Laws
