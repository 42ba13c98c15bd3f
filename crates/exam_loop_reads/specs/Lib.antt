-- What the code goes by.
pub mod Code
