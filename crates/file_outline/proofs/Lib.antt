-- What the code's ways of reading bytes rest on: Bytes. Sums: Sums.
pub mod Bytes
pub mod Sums
pub mod Enough
pub mod Lent
