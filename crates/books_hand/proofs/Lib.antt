pub mod Lending
pub mod MoveLaws
pub mod Sequences
pub mod Begins
pub mod LinkCounts
pub mod Unrefused
