pub mod Solved
pub mod Refused
pub mod Checked
pub mod Claim
