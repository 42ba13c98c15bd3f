pub mod Record
pub mod Direction
pub mod Cells
