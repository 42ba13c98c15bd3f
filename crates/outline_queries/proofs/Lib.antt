mod Mapped
pub mod Examples
pub mod Laws
