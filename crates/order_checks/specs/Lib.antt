-- The places of a list's entries, as they are kept in lent scratch.
pub mod Places
