pub mod Cases
pub mod Access
pub mod Chain
