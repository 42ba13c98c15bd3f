pub mod UseLaws
pub mod Quads
pub mod Readings
pub mod StepLaws
pub mod UseBase
