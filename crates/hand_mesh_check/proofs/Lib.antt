-- Searches and counts over a list's first places, as specs/ have them.
pub mod Listed
pub mod Examples
