pub mod Given
pub mod Examples
pub mod GivenLaws
