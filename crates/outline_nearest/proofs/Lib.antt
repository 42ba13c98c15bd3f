pub mod FarLaws
pub mod GuessLaws
pub mod NamedLaws
pub mod PassLaws
