pub mod LastNumber
pub mod Opened
pub mod Slit
pub mod Square
pub mod Table
pub mod Unreached
