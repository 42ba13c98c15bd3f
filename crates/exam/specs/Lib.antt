pub mod Exam
pub mod Roles
pub mod Statement
pub mod Calls
