pub mod Corners
pub mod Nodes
pub mod Placed
pub mod Point
pub mod Run
pub mod Sampled
