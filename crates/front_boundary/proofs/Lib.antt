pub mod StoppedSums
pub mod Written
pub mod LoopWritten
pub mod LoopsLaid
pub mod LayingLaws
pub mod Progress
pub mod Unsearched
