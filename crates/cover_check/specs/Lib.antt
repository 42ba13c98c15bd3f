-- the lowest number that passes a test; the check of a lent mesh; what it means
pub mod Lowest
pub mod Check
pub mod Start
pub mod Covered
