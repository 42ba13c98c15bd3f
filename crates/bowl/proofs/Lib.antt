pub mod Meaning
pub mod Searched
pub mod Examples
pub mod GivenLaws
pub mod StepsLaws
