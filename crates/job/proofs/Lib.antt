pub mod Cuts
pub mod Digits
pub mod Firsts
pub mod Numbered
pub mod Scans
pub mod Tellings
