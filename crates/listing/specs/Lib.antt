pub mod Text
pub mod Listing
pub mod Buffer
pub mod Output
