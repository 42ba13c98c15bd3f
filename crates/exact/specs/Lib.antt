pub mod Corner
pub mod Units
