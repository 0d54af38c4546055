pub mod Rows
pub mod Openings
pub mod Refused
