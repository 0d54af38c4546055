pub mod Asked
pub mod First
pub mod Parting
pub mod Fitting
