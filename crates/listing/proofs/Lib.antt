-- Writing in pieces, by the code's buffer: Puts. What the loops have left to write: Turns. As many as there are: AsMany. That
-- the digits of the kit are the definitions': Digits.
pub mod AsMany
pub mod Digits
pub mod Puts
pub mod Turns
pub mod BufferLaws
pub mod Cases
pub mod Examples
pub mod Fits
pub mod Left
