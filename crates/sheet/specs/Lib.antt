pub mod Refusals
pub mod Says
pub mod Rules
pub mod Readings
pub mod Parts
