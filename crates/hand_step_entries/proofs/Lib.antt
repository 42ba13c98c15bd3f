pub mod EntryLaws
pub mod ViewLaws
