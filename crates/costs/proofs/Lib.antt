pub mod Order
pub mod Times
mod Turns
