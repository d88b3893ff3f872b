pub mod Rows
pub mod Tests
pub mod Given
pub mod Frames
