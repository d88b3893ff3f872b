pub mod Changes
pub mod Fit
pub mod Agree
pub mod Refused
