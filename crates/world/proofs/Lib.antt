pub mod PastLemmas
pub mod StepLemmas
pub mod TransitLemmas
pub mod KeeperSteps
pub mod CoreLemmas
pub mod PlayLemmas
pub mod AnswerLemmas
pub mod GatherLemmas
mod GatherSteps
pub mod Begins
