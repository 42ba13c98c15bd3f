pub mod Estimate
pub mod OneOff
