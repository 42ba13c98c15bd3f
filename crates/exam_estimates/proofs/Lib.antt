pub mod Moves
pub mod OneOff
pub mod Examples
pub mod MovesBase
