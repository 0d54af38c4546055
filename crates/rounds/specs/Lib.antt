pub mod Words
pub mod Scans
pub mod Rounds
