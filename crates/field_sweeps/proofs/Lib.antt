pub mod TwoRows
pub mod Wave
pub mod Worst
pub mod WorstBase
