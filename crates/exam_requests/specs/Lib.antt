-- The mesh as it is lent.
pub mod Lent
