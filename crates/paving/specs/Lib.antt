pub mod Advance
pub mod Attempt
pub mod Checks
pub mod Ends
pub mod Loops
pub mod Reach
pub mod ReachLaws
pub mod Lent
