pub mod ByteLaws
pub mod File
pub mod ReadLaws
pub mod RefusalLaws
