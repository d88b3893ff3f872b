pub mod Line
pub mod Text
