pub mod Places
pub mod Average
