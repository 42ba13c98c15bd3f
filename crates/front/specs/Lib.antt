pub mod State
pub mod Neighbours
pub mod Sampling
pub mod Place
pub mod Sound
pub mod Ready
pub mod Stores
pub mod Lent
