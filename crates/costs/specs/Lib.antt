pub mod Amounts
pub mod Rows
pub mod Money
pub mod Vias
pub mod Maximum
pub mod Lawful
pub mod Cases
