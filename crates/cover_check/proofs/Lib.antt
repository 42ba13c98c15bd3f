pub mod Lowest
pub mod Covering
pub mod Fits
pub mod Sampled
pub mod Given
