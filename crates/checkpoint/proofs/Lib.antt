pub mod Apart
mod Beginning
pub mod Blocks
mod Flipping
mod Turning
pub mod StandLemmas
pub mod HeadLemmas
pub mod YieldLemmas
pub mod GroupLemmas
pub mod ReceivedLemmas
mod TurnKeeping
mod ImageInProgress
mod ImageKeeping
