-- What the code's ways of writing bytes rest on: Bytes.
pub mod Bytes
pub mod Example
pub mod RoundTrip
pub mod WriteLaws
