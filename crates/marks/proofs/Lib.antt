pub mod Picks
pub mod Tallies
