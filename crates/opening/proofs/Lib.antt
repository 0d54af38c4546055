pub mod Parts
pub mod Least
