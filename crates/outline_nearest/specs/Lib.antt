pub mod Far
pub mod Named
