pub mod Table
pub mod Reached
