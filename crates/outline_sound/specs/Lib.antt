pub mod Sound
pub mod Whole
pub mod Zero
pub mod OverlapLaws
pub mod MeetsLaws
pub mod FoldsLaws
pub mod Meaning
