pub mod Pasts
pub mod Worlds
pub mod Moves
pub mod OneStep
