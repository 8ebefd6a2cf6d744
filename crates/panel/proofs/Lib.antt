pub mod Driving
pub mod Keeping
pub mod Lifting
pub mod Orders
pub mod Placing
