mod Scan
pub mod CursorLaws
mod Walked
pub mod AcrossLaws
pub mod WalkLaws
