pub mod Each
pub mod Walk
pub mod Counted
pub mod Laws
