pub mod Stores
pub mod Step
pub mod Agree
pub mod Refusals
