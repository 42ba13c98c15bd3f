pub mod ReadsListed
