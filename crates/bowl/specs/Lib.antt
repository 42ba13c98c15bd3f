pub mod Steps
pub mod Stepped
pub mod Meaning
