pub mod Entries
pub mod Looping
pub mod Refused
pub mod Small
