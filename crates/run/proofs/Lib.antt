pub mod Silent
pub mod ByKind
pub mod Stores
pub mod Turns
pub mod Going
pub mod Claimed
