pub mod Root
pub mod Float
pub mod Whole
pub mod Isqrt
pub mod RootUnits
pub mod Nearest
pub mod TakenApart
