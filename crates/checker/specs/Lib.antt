pub mod Obeys
pub mod Verdicts
