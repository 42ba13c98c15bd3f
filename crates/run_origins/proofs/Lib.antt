pub mod Start
pub mod Theorem
pub mod Writing
pub mod Filled
pub mod Examples
pub mod Steps
