mod Limbs
mod Split
pub mod Examples
