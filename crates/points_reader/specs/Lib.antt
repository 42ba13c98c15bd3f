pub mod Counts
pub mod Laid
pub mod Puts
pub mod Reading
pub mod Walking
pub mod Answers
