pub mod Numbers
pub mod Exits
pub mod Rows
pub mod Built
pub mod Sounds
pub mod Trapping
