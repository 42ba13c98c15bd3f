pub mod Untried
pub mod VainLaws
pub mod Attempts
pub mod Lasting
pub mod VainBase
