pub mod Twins
pub mod Agreement
