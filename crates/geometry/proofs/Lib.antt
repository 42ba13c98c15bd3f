pub mod InfinityLaws
pub mod KeyLaws
pub mod TestLaws
