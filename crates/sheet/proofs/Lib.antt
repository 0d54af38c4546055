pub mod Tables
pub mod Gating
pub mod Clocks
pub mod Beginnings
pub mod Traps
pub mod Once
