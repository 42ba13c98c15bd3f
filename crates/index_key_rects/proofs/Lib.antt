pub mod KeyLaws
pub mod KeyBase
