pub mod Accepted
pub mod PlaceLaws
pub mod Examples
pub mod PlaceBase
