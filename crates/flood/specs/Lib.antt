pub mod Grounds
pub mod Orders
pub mod Places
