pub mod Bands
pub mod Sweeps
