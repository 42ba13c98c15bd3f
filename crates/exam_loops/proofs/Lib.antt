pub mod Listed
pub mod Walks
pub mod Examples
pub mod ListedBase
pub mod WalksBase
