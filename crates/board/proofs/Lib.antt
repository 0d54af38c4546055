pub mod SetBits
pub mod Clocks
pub mod Limits
pub mod Drafted
