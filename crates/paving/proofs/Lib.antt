pub mod Lent
pub mod AttemptLaws
