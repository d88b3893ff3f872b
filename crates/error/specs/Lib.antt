pub mod Reference
pub mod Errors
