pub mod Limbs
pub mod Sums
pub mod Orient
