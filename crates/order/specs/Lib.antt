pub mod Order
pub mod Accepted
