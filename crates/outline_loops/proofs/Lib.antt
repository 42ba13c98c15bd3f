pub mod HoleList
pub mod LoopList
pub mod LoopsChecked
