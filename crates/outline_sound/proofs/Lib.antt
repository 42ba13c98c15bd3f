pub mod FoldsLaws
pub mod Meaning
pub mod MeetsLaws
pub mod Examples
