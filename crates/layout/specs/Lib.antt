pub mod Layout
pub mod Fits
pub mod Store
