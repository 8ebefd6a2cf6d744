pub mod Entries
pub mod Findings
pub mod Front
pub mod Graphs
pub mod Held
pub mod Routes
pub mod Ways
