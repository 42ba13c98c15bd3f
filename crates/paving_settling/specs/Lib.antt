pub mod Paveable
pub mod Searchable
