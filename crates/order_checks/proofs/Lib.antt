-- How first places are filled in: Filling.
pub mod Filling
pub mod Places
