mod Patterns
mod Sign
mod Sqrt
mod Digits
mod Square
mod TakenApart
mod LibraryRoot
mod LibraryWhole
mod SmallFloor
mod AbsAtMost
pub mod Table
