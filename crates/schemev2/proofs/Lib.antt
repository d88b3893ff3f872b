pub mod Opcodes
pub mod RoundTrip
