pub mod Agreement
pub mod Lockstep
pub mod SideBySide
pub mod Starts
pub mod Alike
pub mod Attempts
pub mod Placings
pub mod Twins
