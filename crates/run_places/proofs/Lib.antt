pub mod Examples
pub mod Few
pub mod Laws
