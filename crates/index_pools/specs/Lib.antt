-- In reading order: the pool, its chains and what is filed in it; then the laws of chains and of filing.
pub mod Pool
pub mod ChainLaws
pub mod FileLaws
pub mod Filing
