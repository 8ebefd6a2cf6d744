pub mod Bounds
pub mod Firsts
pub mod Keeps
pub mod Lasts
pub mod Linking
pub mod Places
pub mod Walks
