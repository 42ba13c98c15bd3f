pub mod AcceptedLoops
pub mod WalkLaws
