pub mod Outcomes
pub mod Hand
pub mod Lent
