pub mod Fours
pub mod Order
pub mod Theorem
