pub mod Parsed
