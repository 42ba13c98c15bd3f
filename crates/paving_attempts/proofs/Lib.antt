pub mod Chosen
pub mod Kept
pub mod Parts
pub mod AttemptLaws
pub mod SeenLaws
