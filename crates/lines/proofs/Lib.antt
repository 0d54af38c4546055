pub mod Fields
pub mod Refusing
pub mod Once
pub mod Texts
pub mod Numerals
