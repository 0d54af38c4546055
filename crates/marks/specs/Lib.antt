pub mod Marks
pub mod Picks
pub mod Tallies
pub mod Unique
