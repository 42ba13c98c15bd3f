pub mod Balance
pub mod Theorem
