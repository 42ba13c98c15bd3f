pub mod Nodes
pub mod OneWay
pub mod Joins
