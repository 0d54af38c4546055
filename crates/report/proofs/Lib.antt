pub mod Wanting
pub mod Handed
pub mod Telling
