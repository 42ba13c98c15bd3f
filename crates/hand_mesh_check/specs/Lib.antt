pub mod Check
pub mod CheckLaws
pub mod Passed
