pub mod Clearances
