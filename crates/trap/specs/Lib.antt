pub mod Traps
pub mod TrapRefused
