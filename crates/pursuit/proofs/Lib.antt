pub mod Laid
pub mod Claiming
