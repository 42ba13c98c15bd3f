-- Parts of a list of doubles: Slices.
pub mod Slices
pub mod Books
pub mod Laws
