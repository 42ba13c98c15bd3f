pub mod FileLaws
pub mod Filing
pub mod Clearing
