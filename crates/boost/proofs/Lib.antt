pub mod OpenLemmas
pub mod PlayedLemmas
pub mod EffectLemmas
pub mod ArgumentCommands
pub mod ArgumentNumbers
pub mod CopyEdits
