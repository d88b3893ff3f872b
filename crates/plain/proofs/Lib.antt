pub mod Laws
pub mod Inverses
