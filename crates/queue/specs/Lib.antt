pub mod Distinct
pub mod Heap
pub mod Order
pub mod Waiting
