pub mod Origins
pub mod Start
pub mod Writing
