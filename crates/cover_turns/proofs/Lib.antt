mod Seen
pub mod Turns
