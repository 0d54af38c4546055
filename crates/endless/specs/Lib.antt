pub mod Published
pub mod Endless
pub mod Trapped
pub mod Piled
pub mod Laws
