pub mod Integers
pub mod ListLaws
