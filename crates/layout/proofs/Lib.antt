pub mod Regions
pub mod Back
pub mod Slots
pub mod Worlds
pub mod Packs
