pub mod Seeing
pub mod Visits
pub mod Phases
pub mod Attempting
pub mod Deferring
