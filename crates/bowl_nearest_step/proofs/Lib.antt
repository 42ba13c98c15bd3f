pub mod StepLaws
pub mod Examples
pub mod StepBase
