pub mod Taking
pub mod Examples
pub mod OffLaws
pub mod StretchLaws
pub mod TakingBase
