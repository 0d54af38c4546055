pub mod Laws
pub mod Meaning
pub mod Pairs
pub mod Rows
