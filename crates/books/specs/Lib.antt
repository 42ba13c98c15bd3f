pub mod Book
pub mod Net
pub mod Points
pub mod Holds
