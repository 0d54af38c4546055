pub mod State
pub mod Reached
pub mod Whole
pub mod FinishRefused
pub mod Progress
pub mod Ended
pub mod Shown
