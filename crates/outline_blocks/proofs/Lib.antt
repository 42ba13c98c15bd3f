pub mod Loops
pub mod BetweenLaws
pub mod BlockLaws
pub mod FilingLaws
pub mod OrderLaws
pub mod RayLaws
pub mod ReachLaws
