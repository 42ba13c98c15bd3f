pub mod Demanded
pub mod Ends
pub mod Runs
