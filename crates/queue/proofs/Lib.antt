mod Climbing
mod Draining
mod Fronts
mod Heaps
pub mod Uses
