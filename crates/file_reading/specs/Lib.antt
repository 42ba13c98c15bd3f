-- What the contract of the reading cites: Counts.
pub mod Counts
