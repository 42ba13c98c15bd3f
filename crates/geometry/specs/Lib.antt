pub mod Plane
pub mod Sides
pub mod SignLaws
pub mod LeftTurns
pub mod Keys
