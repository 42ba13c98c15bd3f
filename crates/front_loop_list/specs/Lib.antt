pub mod Listed
pub mod Walked
pub mod Found
pub mod Visits
pub mod ListedLaws
