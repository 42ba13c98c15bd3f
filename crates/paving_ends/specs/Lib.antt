-- What is decided in a pass without trying an edge: what the answers of the code say.
pub mod Answers
