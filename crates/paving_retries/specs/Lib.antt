pub mod Grows
pub mod Vain
pub mod Untried
