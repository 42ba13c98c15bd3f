-- What each change of a placing leaves for the next one.
pub mod Next
pub mod Local
pub mod PlaceLaws
