pub mod PowersBase
pub mod Powers
pub mod Examples
