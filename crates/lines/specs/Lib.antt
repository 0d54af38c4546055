pub mod Grammar
pub mod Refusals
pub mod Entries
pub mod Single
pub mod Lines
pub mod Reading
pub mod Values
