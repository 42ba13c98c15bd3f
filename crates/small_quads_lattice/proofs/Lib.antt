pub mod Examples
pub mod Order
pub mod Same
pub mod Scale
pub mod Tables
pub mod Theorem
