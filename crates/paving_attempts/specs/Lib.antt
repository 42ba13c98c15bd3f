pub mod Seen
pub mod FarCorners
pub mod Props
