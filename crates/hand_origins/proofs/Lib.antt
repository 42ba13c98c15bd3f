pub mod Theorem
pub mod Pushed
