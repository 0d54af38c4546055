pub mod Positions
pub mod Scanned
pub mod Sweep
pub mod Turn
pub mod Counts
