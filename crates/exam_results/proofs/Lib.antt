-- Laws of steps: what is read, blanked and left where a threshold is entered or withdrawn: Entered. When an estimate is refused: Estimated.
pub mod Entered
pub mod Estimated
