pub mod Chainings
pub mod Filled
pub mod Plains
pub mod Standing
pub mod StripRegisters
pub mod Strips
