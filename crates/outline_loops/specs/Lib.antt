pub mod Holes
pub mod Loops
pub mod Order
