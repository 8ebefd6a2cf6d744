pub mod Cases
pub mod Claims
pub mod Laid
pub mod Lines
pub mod Routes
pub mod Rules
pub mod Turns
