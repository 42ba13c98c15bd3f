pub mod Accepted
pub mod Doubles
pub mod Outline
pub mod Parity
pub mod Queries
pub mod Refusals
pub mod Search
