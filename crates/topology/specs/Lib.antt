pub mod Sums
pub mod Links
pub mod Front
pub mod Balance
pub mod Walk
pub mod Listing
pub mod LongLoops
