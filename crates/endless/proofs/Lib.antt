pub mod Edges
pub mod Publishing
pub mod Folding
pub mod Trapping
pub mod Piling
