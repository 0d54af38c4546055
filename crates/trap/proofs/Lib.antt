pub mod Exclude
