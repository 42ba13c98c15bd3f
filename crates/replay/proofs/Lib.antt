-- What the code's comparison and its lines rest on: Places.
pub mod Places
pub mod Laws
