pub mod Laws
pub mod Loop
pub mod Steps
