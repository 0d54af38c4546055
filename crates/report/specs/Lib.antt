pub mod Failures
pub mod Reports
