-- A part of a list that is filled at once; and what is read of a paving.
pub mod Filled
pub mod Lent
